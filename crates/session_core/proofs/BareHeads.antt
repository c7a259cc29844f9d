-- A head holds no bytes.
use Rattle.std.proofs.Common.{◌≡◌, ℕ, true, false, List, [], length, refl, sym, ◌∙◌, ap, subst, true≢false}
use Rattle.std.specs.Prelude.{zero, suc, Option, Some, None}
use Rattle.seg_words.specs.Types.{Shape, Slot, Kind, Empty, Row, Head, Body, as_told, number_of_writer}
use Rattle.redo_model.specs.Records.{Record, RowBody}
use Rattle.redo_model.specs.Model.{holds_row, image, AreAllowed, MigrateAllowed, UpdateAllowed}
use Rattle.redo_model.specs.AllowedRows.{migrates_plain, migrates_again}
use Rattle.redo_laws.proofs.steps.ImageFacts.{IsKept, NewHave, all_have}
use Rattle.redo_laws.proofs.steps.NewImages.{NewImages, new_images}

abbrev IsBare : ℕ → Slot → Type 0
IsBare b i = i.kind ≡ Head → i.bytes ≡ []

told_bare : (b : ℕ) (s : Slot) (o : Option ℕ) → IsBare b s → IsBare b (as_told s o)
told_bare b s None h = h
told_bare b s (Some zero) h = h
told_bare b s (Some (suc c)) h = h

bare_kept : IsKept IsBare
bare_kept = record { fresh = λ b e. refl; cleaned = λ b cs i h. told_bare b i (number_of_writer cs i.writer) h }

no_head : (P : Type 0) (k : Kind) → holds_row k ≡ true → k ≡ Head → P
no_head P k h e = absurd (true≢false (sym h ∙ ap holds_row e))

body_head : (P : Type 0) → Body ≡ Head → P
body_head P e = absurd cc

row_head : (P : Type 0) (k : Kind) → k ≡ Row → k ≡ Head → P
row_head P k r e = absurd (let z : Row ≡ Head = sym r ∙ e in cc)

empty_head : (P : Type 0) (k : Kind) → k ≡ Empty → k ≡ Head → P
empty_head P k r e = absurd (let z : Empty ≡ Head = sym r ∙ e in cc)

bare_updates : (sh : Shape) (R : List Record) (w : RowBody) → UpdateAllowed sh R w → NewHave IsBare w.parts
bare_updates sh R w a = subst (NewHave IsBare) (sym a.parts) (λ e. no_head _ (image R a.block a.slot).kind a.holds e, tt)

bare_migrates : (sh : Shape) (R : List Record) (w : RowBody) → MigrateAllowed sh R w → NewHave IsBare w.parts
bare_migrates sh R w (migrates_plain a) = subst (NewHave IsBare) (sym a.parts) (λ e. refl, (λ e. body_head _ e, tt))
bare_migrates sh R w (migrates_again a) = subst (NewHave IsBare) (sym a.parts) (λ e. refl, (λ e. refl, (λ e. body_head _ e, tt)))

bare_images : (sh : Shape) → NewImages sh IsBare
bare_images sh = record {
  rows = λ b i k e. row_head _ i.kind k e;
  emptied = λ b i k e. empty_head _ i.kind k e;
  updates = λ R w a h. bare_updates sh R w a;
  migrates = λ R w a. bare_migrates sh R w a;
}

pub head_bare : (sh : Shape) (R : List Record) (b k : ℕ) → AreAllowed sh R → (image R b k).kind ≡ Head → length (image R b k).bytes ≡ 0
head_bare sh R b k h e = ap (λ (xs : List ℕ). length xs) ((all_have sh IsBare bare_kept (new_images sh IsBare (bare_images sh)) R h).images b k e)
