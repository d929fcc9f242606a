pub mod KindTotalLaws
