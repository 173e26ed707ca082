-- Laws of the verdict block: it reads back.
pub mod Says
