pub mod WritesBlocks
