-- Phase two, block by block and sample by sample: what is left comes to the whole.
pub mod PredictionLaws
