-- What a page's method leaves.
use Rattle.std.specs.Prelude.{◌≡◌, List, ℕ}
use Rattle.text.specs.declared.page.Page.{Page}
use Rattle.text.specs.Page.{page, Wrote}

-- the page after has the slice that the page before has, and these bytes are written to it
pub record Put (before after : Page) (bytes : List ℕ) : Type 0 where
  pub same_slice : after.bytes.ghost_name ≡ before.bytes.ghost_name
  pub wrote : Wrote (page before.at before.bytes.now) bytes (page after.at after.bytes.now)
