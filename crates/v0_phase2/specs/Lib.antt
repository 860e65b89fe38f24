pub mod LateRow
