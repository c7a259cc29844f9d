-- What undo pages and row pages show.
use Rattle.std.proofs.Common.{◌≡◌, ℕ, zero, suc, ◌+◌, Bool, true, false, cond, not, ◌&&◌, ◌==◌, List, [], ◌∷◌, length, get_or, map, sum_by, Option, Some, None, refl, sym, ◌∙◌, ap, ap₂, arith, inl, inr, ne_eqb}
use Rattle.seg_words.proofs.Lemmas.{cases_Bool, sum_by-cons}
use Rattle.seg_words.specs.Types.{Shape, Writer, By, At, Block, ListEntry, new_slot, entry_for, fits, takes, slot_to_use, next_room}
use Rattle.redo_model.specs.Records.{Record}
use Rattle.redo_model.specs.Undo as model
use Rattle.redo_model.specs.Model.{txn_count, block_of, is_active, ended_in, Undone, HeldPart, part_size, least_active, undo_held, undo_parts, AreAllowed}
use Rattle.redo_laws.proofs.numbers.TxnTable.{txn_table}
use Rattle.redo_laws.proofs.undo.ReadsLaw.{undo_is_read}
use Rattle.undo_block.specs.Parts as parts
use Rattle.undo_block.specs.declared.part.Part.{Part}
use Rattle.undo_block.specs.Types.{used_by, with_part, holder_of}
use Rattle.version_laws.specs.Types.{begin_of, ended_by, as_kept}
use Rattle.version_laws.proofs.SlotLaw.{begun_from_one}
use Rattle.version_laws.proofs.TableLaw.{tables_tell}
use Rattle.redo_model.proofs.Bridge.{image_is}
use Rattle.change_laws.specs.Drafts.{entry_by, taker_of}
use Rattle.change_laws.specs.Shows.{UndoPagesShow, RowPagesShow}
use Rattle.change_laws.proofs.BegunLaw.{begins_leave}

abbrev undone_of : HeldPart → Undone
undone_of h = record { by = h.by; size = part_size h.part }

lesser_same : (t : ℕ) (o : Option ℕ) → parts.lesser t o ≡ model.lesser t o
lesser_same t None = refl
lesser_same t (Some u) = refl

no_zero : (sh : Shape) (R : List Record) → AreAllowed sh R → is_active R 0 ≡ false
no_zero sh R a = elim (cases_Bool (is_active R 0)) [ inl y ↦ absurd (let l = begun_from_one sh R 0 a ((txn_table sh R a).begun 0 y) in omega (arith, l)) | inr n ↦ n ]

held_same : (R : List Record) (t : ℕ) → is_active R 0 ≡ false → (not (t == 0) && not (ended_in R t)) ≡ is_active R t
held_same R zero z = sym z
held_same R (suc t) z =
    let other : (suc t == 0) ≡ false = ne_eqb (suc t) 0 (λ e. absurd (omega (arith, e))) in
    ap (λ v. not v && not (ended_in R (suc t))) other ∙ twice (is_active R (suc t))
  where
    twice : (v : Bool) → not (not v) ≡ v
    twice true = refl
    twice false = refl

with_same : (R : List Record) (h : HeldPart) (o : Option ℕ) (us : List Undone) → is_active R 0 ≡ false → o ≡ least_active R us → with_part (ended_in R) (as_kept h) o ≡ least_active R (undone_of h ∷ us)
with_same R h o us z e = go h.by
  where
    go : (w : Writer) → with_part (ended_in R) (as_kept (record h { by = w })) o ≡ least_active R (record { by = w; size = part_size h.part } ∷ us)
    go (By t) = ap (λ v. cond v (parts.lesser t o) o) (held_same R t z) ∙ ap₂ (λ (x y : Option ℕ). cond (is_active R t) x y) (ap (parts.lesser t) e ∙ lesser_same t (least_active R us)) e
    go (At c) = e

holder_same : (R : List Record) (hs : List HeldPart) → is_active R 0 ≡ false → holder_of (ended_in R) (map as_kept hs) ≡ least_active R (map undone_of hs)
holder_same R [] z = refl
holder_same R (h ∷ hs) z = with_same R h (holder_of (ended_in R) (map as_kept hs)) (map undone_of hs) z (holder_same R hs z)

used_same : (hs : List HeldPart) → used_by (map as_kept hs) ≡ sum_by (λ (p : Undone). p.size) (map undone_of hs)
used_same [] = refl
used_same (h ∷ hs) = sum_by-cons parts.part_size (as_kept h) (map as_kept hs) ∙ ap (λ (n : ℕ). part_size h.part + n) (used_same hs) ∙ sym (sum_by-cons (λ (p : Undone). p.size) (undone_of h) (map undone_of hs))

length_same : (hs : List HeldPart) → length (map as_kept hs) ≡ length (map undone_of hs)
length_same [] = refl
length_same (h ∷ hs) = ap (λ n. suc n) (length_same hs)

pub undo_pages_show : UndoPagesShow
undo_pages_show sh R u p a h =
    let sizes = (undo_is_read sh R a).sizes u in
    let count : length p.parts ≡ length (undo_parts R u) = ap (λ (ps : List Part). length ps) h.parts ∙ length_same (undo_held R u) ∙ ap (λ (us : List Undone). length us) (sym sizes) in
    record {
      sequence = h.sequence;
      used = ap used_by h.parts ∙ used_same (undo_held R u) ∙ ap (λ (us : List Undone). sum_by (λ (x : Undone). x.size) us) (sym sizes);
      count = count;
      end = ap₂ (λ (s n : ℕ). record { block = u; seq = s; nth = n }) h.sequence count;
      holder = ap (holder_of (ended_in R)) h.parts ∙ holder_same R (undo_held R u) (no_zero sh R a) ∙ ap (least_active R) (sym sizes);
    }

-- rows

pub row_pages_show : RowPagesShow
row_pages_show sh R b p q a h t =
    let e : ended_by q ≡ ended_in R = (tables_tell sh R q a t).ended in
    let k : p.block ≡ block_of R b = h.block in
    let entry : (u : ℕ) → entry_for (ended_by q) p.block u ≡ entry_by R (Some u) b = λ u. ap₂ (λ (f : ℕ → Bool) (x : Block). entry_for f x u) e k in
    record {
      entry = entry;
      new_entry = entry (suc (txn_count R)) ∙ ((begins_leave sh R (begin_of R 1 0 0) a refl).blocks b).entry_before;
      fits = λ n len own. ap₂ (λ (f : ℕ → Bool) (x : Block). fits f x n len (taker_of own)) e k;
      takes = λ pct len own. ap₂ (λ (f : ℕ → Bool) (x : Block). takes f pct x len (taker_of own)) e k;
      slot = ap₂ slot_to_use e k;
      room = λ old len. ap (λ (f : ℕ → Bool). next_room f old len) e;
      image = λ n. ap (λ (x : Block). get_or x.slots n new_slot) k ∙ image_is R b n;
      txns = ap (λ (x : Block). map (λ (y : ListEntry). y.txn) x.entries) k;
    }
