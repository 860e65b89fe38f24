-- What follows from the definitions: the worked examples; which proposals are taken; what the writer makes is taken; what is taken is
-- decoded back; the same of calls that have returned; and what the writer made is decoded back by such calls.
pub mod Cases
pub mod Exactly
pub mod Written
pub mod Decoded
pub mod Returned
pub mod ReadBack
