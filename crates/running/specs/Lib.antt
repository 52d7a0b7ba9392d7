pub mod Input
