-- What each way through the counting of an opcode leaves: laws over plain variables.
use Rattle.std.proofs.Common.{◌≡◌, ℕ, ◌<◌, ◌≤◌, List, length, sym, ap, ◌∙◌, ap₂, arith, le-leb, lt-ltb}
use Rattle.std.proofs.lemmas.List.{set_past}
use borrow.Author.Tests.{lt-leb}
use Rattle.records.specs.Bytes.{part}
use Rattle.records.specs.Record.{state_at, after_at, bytes_at, memory_length, memory_from}
use Rattle.records.specs.Notes.{places, counted, opcode_of, prefix_noted, fetch_noted, opcode_noted}

-- a place past the end counts nothing
pub none_noted : (counts : List ℕ) → length counts ≡ 1536 → counts ≡ prefix_noted places (counted places counts)
none_noted counts long = let past : length counts ≤ 1536 = omega arith in sym (set_past counts 1536 _ past)

module _ (place : ℕ) (counts : List ℕ) {once : List ℕ} (met : once ≡ counted place counts) where
  pub plain_noted : place < 256 → once ≡ prefix_noted place (counted place counts)
  plain_noted low = simp (lt-leb 256 place low) met

  pub after_noted : {twice : List ℕ} → 256 ≤ place → place < 512 → twice ≡ counted 0xcb once → twice ≡ prefix_noted place (counted place counts)
  after_noted high small again =
      let within : place < 1536 = omega arith in simp (le-leb 256 place high, lt-ltb place 1536 within) (again ∙ ap (λ (l : List ℕ). counted 0xcb l) met)

module _ (r counts : List ℕ) where
  -- the opcode is that of the memory that the record tells
  pub as_told : {size place : ℕ} {state m : List ℕ} → size ≡ 65536 → m ≡ memory_from r bytes_at size → state ≡ part r state_at after_at → place ≡ opcode_of state m → prefix_noted place (counted place counts) ≡ fetch_noted r 65536 counts
  as_told whole laid standing told =
      ap (λ (k : ℕ). prefix_noted k (counted k counts)) (told ∙ ap₂ (λ (s l : List ℕ). opcode_of s l) standing (laid ∙ ap (λ (k : ℕ). memory_from r bytes_at k) whole))

  pub on_whole : {n : ℕ} {counts' : List ℕ} → n ≡ memory_length r → n ≡ 65536 → counts' ≡ fetch_noted r 65536 counts → counts' ≡ opcode_noted r counts
  on_whole sized whole e = let so : memory_length r ≡ 65536 = sym sized ∙ whole in rw so e
