-- Writing one list and then another is writing both; a byte that finds room, and one that does not.
use mathlib.Core.Path.{◌≡◌, refl, sym, ap, subst, ◌∙◌}
use mathlib.Core.List.{List, [], ◌∷◌, ◌++◌}
use Prim.Native.Nat.{ℕ, ◌+◌, ◌<◌, ◌≤◌}
use native.Mathlib.Numerals.{add-one}
use lib.ListN.{length, take, get_or, set}
use lib.Seq.{take-suc}
use borrow.Author.Tests.{lt-ltb, le-ltb}
use Rattle.text.specs.Page.{Page, page, put_byte, written, Wrote}
use Rattle.text.specs.declared.page.Page.{Page as Slice}
use Rattle.text.specs.Put.{Put}

pub written_append : (p : Page) (xs ys : List ℕ) → written p (xs ++ ys) ≡ written (written p xs) ys
written_append p [] ys = refl
written_append p (x ∷ xs) ys = written_append (put_byte p x) xs ys

pub nothing : {p : Page} → Wrote p [] p
nothing = record { is = refl }

-- one text, and then another
infixl 20 ◌⨾◌
pub ◌⨾◌ : {p q r : Page} {xs ys : List ℕ} → Wrote p xs q → Wrote q ys r → Wrote p (xs ++ ys) r
◌⨾◌ {p} {q} {r} {xs} {ys} first second =
    record { is = second.is ∙ ap (λ (x : Page). written x ys) first.is ∙ sym (written_append p xs ys) }

pub with_room : (at : ℕ) (out : List ℕ) (b : ℕ) → at < length out → Wrote (page at out) (b ∷ []) (page (at + 1) (set out at b))
unfolding put_byte
with_room at out b room = record { is = simp (lt-ltb at (length out) room) }

pub without_room : (at : ℕ) (out : List ℕ) (b : ℕ) → length out ≤ at → Wrote (page at out) (b ∷ []) (page at out)
unfolding put_byte
without_room at out b full = record { is = simp (le-ltb at (length out) full) }

-- the same of a page that keeps its slice
pub and_then : {p q r : Slice} {xs ys : List ℕ} → Put p q xs → Put q r ys → Put p r (xs ++ ys)
and_then first second =
    record { same_slice = second.same_slice ∙ first.same_slice; wrote = first.wrote ⨾ second.wrote }

-- one turn of the loop that writes a text
pub one_more : {p q r : Slice} (text : List ℕ) (i : ℕ) → i < length text → Put p q (take i text) → Put q r (get_or text i 0 ∷ []) → Put p r (take (i + 1) text)
one_more {p} {q} {r} text i more so_far byte =
    subst (λ (l : List ℕ). Put p r l) (sym (take-suc text i 0 more) ∙ ap (λ (n : ℕ). take n text) (sym (add-one i))) (and_then so_far byte)

-- a page that has the slice of the page before: with what is left, it comes to what all would have come to
pub record Leads (before : Slice) (all : List ℕ) (now : Slice) (left : List ℕ) : Type 0 where
  pub same_slice : now.bytes.ghost_name ≡ before.bytes.ghost_name
  pub comes : written (page now.at now.bytes.now) left ≡ written (page before.at before.bytes.now) all

pub goes_on : {before p q : Slice} {all part rest : List ℕ} → Leads before all p (part ++ rest) → Put p q part → Leads before all q rest
goes_on {before} {p} {q} {all} {part} {rest} so_far put = record {
  same_slice = put.same_slice ∙ so_far.same_slice;
  comes = ap (λ (x : Page). written x rest) put.wrote.is ∙ sym (written_append (page p.at p.bytes.now) part rest) ∙ so_far.comes;
}

pub done : {before p : Slice} {all : List ℕ} → Leads before all p [] → Put before p all
done so_far = record { same_slice = so_far.same_slice; wrote = record { is = so_far.comes } }
