-- What an operation does to a frame of any kind of cell; inner blocks; and the exchange, part by part.
pub mod CellLaws
pub mod StagedLaws
pub mod InnerLaws
pub mod FourLaws
pub mod ExchangeLaws
pub mod RoomLaws
