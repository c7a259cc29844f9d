-- A head leads to another block.
use Rattle.std.proofs.Common.{◌≡◌, ◌≢◌, ℕ, zero, suc, true, false, List, Option, Some, None, sym, ◌∙◌, ap, subst}
use Rattle.seg_words.specs.Types.{Shape, Empty, Row, Head, Body, Rowid, Slot, number_of_writer, as_told}
use Rattle.redo_model.specs.Records.{Record, RowBody}
use Rattle.redo_model.specs.Model.{UpdateAllowed, MigrateAllowed}
use Rattle.redo_model.specs.AllowedRows.{migrates_plain, migrates_again}
use Rattle.redo_laws.proofs.steps.ImageFacts.{IsKept, NewHave, AllHave, Puts, all_have}
use Rattle.redo_laws.proofs.steps.NewImages.{new_images}
use Rattle.shrink_laws.specs.Heads.{HeadsAreApart}

-- an image in block b that is a head leads to another block
abbrev LeadsAway : ℕ → Slot → Type 0
LeadsAway b i = (p : Rowid) → i.kind ≡ Head → i.link ≡ Some p → p.dba ≢ b

body_no_head : (P : Type 0) → Body ≡ Head → P
body_no_head P e = absurd cc

empty_no_head : (P : Type 0) → Empty ≡ Head → P
empty_no_head P e = absurd cc

link_is : (p q : Rowid) → ◌≡◌ {A = Option Rowid} (Some p) (Some q) → p.dba ≡ q.dba
link_is p q e = let same : p ≡ q = cc in ap (λ (r : Rowid). r.dba) same

told_away : (b : ℕ) (s : Slot) (o : Option ℕ) → LeadsAway b s → LeadsAway b (as_told s o)
told_away b s None h = h
told_away b s (Some zero) h = h
told_away b s (Some (suc c)) h = h

kept : IsKept LeadsAway
kept = record { fresh = λ b p k l. empty_no_head _ k; cleaned = λ b cs i h. told_away b i (number_of_writer cs i.writer) h }

new_update : (sh : Shape) (R : List Record) (w : RowBody) → UpdateAllowed sh R w → AllHave LeadsAway R → NewHave LeadsAway w.parts
new_update sh R w a h = subst (NewHave LeadsAway) (sym a.parts) ((λ p k l. h.images a.block a.slot p k l), tt)

new_migrate : (sh : Shape) (R : List Record) (w : RowBody) → MigrateAllowed sh R w → NewHave LeadsAway w.parts
new_migrate sh R w (migrates_plain a) = subst (NewHave LeadsAway) (sym a.parts) ((λ p k l e. a.other (link_is _ p l ∙ e)), ((λ p k l. body_no_head _ k), tt))
new_migrate sh R w (migrates_again a) = subst (NewHave LeadsAway) (sym a.parts) ((λ p k l e. a.not_head (link_is _ p l ∙ e)), ((λ p k l. empty_no_head _ k), ((λ p k l. body_no_head _ k), tt)))

puts : (sh : Shape) → Puts sh LeadsAway
puts sh = new_images sh LeadsAway (record {
  rows = λ b i k p h. absurd (let x : Row ≡ Head = sym k ∙ h in cc);
  emptied = λ b i k p h. absurd (let x : Empty ≡ Head = sym k ∙ h in cc);
  updates = new_update sh;
  migrates = new_migrate sh;
})

pub heads_are_apart : HeadsAreApart
heads_are_apart sh R h =
    let a = all_have sh LeadsAway kept (puts sh) R h in
    record {
      head = λ b k p e l. a.images b k p e l;
      migrated = λ n b k c l m e. a.images b k _ m.head_kind m.head_link e;
    }
