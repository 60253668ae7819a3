pub mod Check
pub mod Lookups
pub mod PanelE
pub mod Try
