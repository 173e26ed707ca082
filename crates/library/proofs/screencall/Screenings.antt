-- The marks and the block as the screen leaves them: laws of `screen_blocks` over plain variables.
use Rattle.std.proofs.Common.{if◌then◌else◌}
use mathlib.Core.Path.{◌≡◌, ap, sym}
use mathlib.Core.Bool.{Bool}
use mathlib.Core.List.{List}
use Prim.Native.Nat.{ℕ}
use lib.ListN.{length}
use borrow.Author.Tests.{eq-eqb, ne_eqb}
use Rattle.routine.specs.Verdict.{Verdict}
use Rattle.routine.specs.Numbers.{verdict_number}
use Rattle.routine.specs.Screen.{screen}
use Rattle.screen.specs.Parts.{Screens}
use Rattle.blocks.specs.ScreenBlock.{verdict_bytes}
use Rattle.library.specs.Screened.{LeftByScreen, left_by_screen, screen_blocks}

module _ (memory : List ℕ) (first last : ℕ) (marks block : List ℕ) where
  -- by the test of the block's length
  abbrev by_length : Bool → LeftByScreen
  by_length t =
      let s = screen memory first last marks in
      if t then left_by_screen (verdict_number s.verdict) s.marks (verdict_bytes s.verdict block) else left_by_screen 255 marks block

  pub wrong_verdict_block : (length block ≡ 4 → ⊥) → left_by_screen 255 marks block ≡ screen_blocks memory first last marks block
  unfolding screen_blocks
  wrong_verdict_block h = sym (ap by_length (ne_eqb (length block) 4 h))

  pub verdict_written : (v : Verdict) (number : ℕ) (marks' block' : List ℕ) → length block ≡ 4 → Screens (screen memory first last marks) v marks' → block' ≡ verdict_bytes v block → number ≡ verdict_number v → left_by_screen number marks' block' ≡ screen_blocks memory first last marks block
  unfolding screen_blocks
  verdict_written v number marks' block' h screened block-left numbered =
      simp (numbered, block-left, screened.marks, screened.verdict) (sym (ap by_length (eq-eqb (length block) 4 h)))
