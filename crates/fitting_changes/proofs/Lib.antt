pub mod Composers
