pub mod PairLaws
pub mod PieceLaws
mod ShortLaws
pub mod RunLaws
pub mod LayerLaws
