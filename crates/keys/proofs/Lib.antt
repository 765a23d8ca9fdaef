pub mod KeyInputLaws
pub mod MaskLaws
pub mod RingLaws
pub mod SittingLaws
