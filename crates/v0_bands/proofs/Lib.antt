-- Phase two in bands: what is left from here comes to the whole from the start; and the exchange by blocks is the whole one.
pub mod StepLaws
pub mod PartLaws
pub mod FreedLaws
pub mod ExchangeLaws
pub mod FrameLaws
