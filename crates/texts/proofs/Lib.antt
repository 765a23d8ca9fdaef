pub mod PadLaws
