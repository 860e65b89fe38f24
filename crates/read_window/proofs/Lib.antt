-- Reading by position is reading by the record (`WindowLaws`: `read_at`, `leaves`, `fields_at`, `window_is`, `stands_is`), two's complement
-- without a test (`SignLaws`), and worked examples.
pub mod WindowLaws
pub mod Examples
pub mod SignLaws
