-- The tests of refusals 1 to 4 are the rules' tests, in their order.
pub mod RefusalLaws
