pub mod LaneLaws
pub mod RoundLaws
pub mod ScheduleLaws
