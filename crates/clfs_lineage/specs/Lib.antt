pub mod Lineage
