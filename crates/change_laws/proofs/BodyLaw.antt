-- An image that holds a body names its head, also one that was written over.
use Rattle.std.proofs.Common.{◌≡◌, ℕ, zero, suc, Bool, true, false, cond, List, [], ◌∷◌, Option, Some, None, refl, sym, ◌∙◌, subst, inl, inr}
use Rattle.seg_words.specs.Types.{Shape, Empty, Row, Head, Body, Slot, UndoAddr, Writer, number_of_writer, as_told}
use Rattle.redo_model.specs.Records.{Record, RowPart, RowBody}
use Rattle.redo_model.specs.Model.{Step, standing, image, Made, makers, first_counted, counts, UpdateAllowed, MigrateAllowed}
use Rattle.redo_model.specs.AllowedRows.{migrates_plain, migrates_again}
use Rattle.redo_laws.specs.Chain.{IsStatedIn, IsStated, EachMade}
use Rattle.redo_laws.proofs.lists.Every.{Every}
use Rattle.redo_laws.proofs.links.ChainLaw.{slots_are_chains}
use Rattle.redo_laws.proofs.steps.ImageFacts.{IsKept, NewHave, OldHave, AllHave, Puts, all_have}
use Rattle.redo_laws.proofs.steps.NewImages.{new_images}
use Rattle.change_laws.specs.Looks.{HeadOf, BodiesNameHeads}

abbrev NamesHead : ℕ → Slot → Type 0
NamesHead b i = i.kind ≡ Body → HeadOf i

head_no_body : (P : Type 0) → Head ≡ Body → P
head_no_body P e = absurd cc

empty_no_body : (P : Type 0) → Empty ≡ Body → P
empty_no_body P e = absurd cc

told_names : (b : ℕ) (s : Slot) (o : Option ℕ) → NamesHead b s → NamesHead b (as_told s o)
told_names b s None h = h
told_names b s (Some zero) h = λ e. let x = h e in record { head = x.head; link_is = x.link_is }
told_names b s (Some (suc c)) h = λ e. let x = h e in record { head = x.head; link_is = x.link_is }

kept : IsKept NamesHead
kept = record { fresh = λ b e. empty_no_body _ e; cleaned = λ b cs i h. told_names b i (number_of_writer cs i.writer) h }

new_update : (sh : Shape) (R : List Record) (w : RowBody) → UpdateAllowed sh R w → AllHave NamesHead R → NewHave NamesHead w.parts
new_update sh R w a h = subst (NewHave NamesHead) (sym a.parts) ((λ e. let x = h.images a.block a.slot e in record { head = x.head; link_is = x.link_is }), tt)

new_migrate : (sh : Shape) (R : List Record) (w : RowBody) → MigrateAllowed sh R w → NewHave NamesHead w.parts
new_migrate sh R w (migrates_plain a) = subst (NewHave NamesHead) (sym a.parts) ((λ e. head_no_body _ e), ((λ e. record { head = _; link_is = refl }), tt))
new_migrate sh R w (migrates_again a) = subst (NewHave NamesHead) (sym a.parts) ((λ e. head_no_body _ e), ((λ e. empty_no_body _ e), ((λ e. record { head = _; link_is = refl }), tt)))

puts : (sh : Shape) → Puts sh NamesHead
puts sh = new_images sh NamesHead (record {
  rows = λ b i k e. absurd (let x : Row ≡ Body = sym k ∙ e in cc);
  emptied = λ b i k e. absurd (let x : Empty ≡ Body = sym k ∙ e in cc);
  updates = new_update sh;
  migrates = new_migrate sh;
})

-- the images below the newest are old images of standing steps

in_parts : (st : Step) (i : ℕ) (ps : List RowPart) (b k : ℕ) (m : Made) → OldHave NamesHead ps → IsStatedIn st i ps b k m → NamesHead b m.old
in_parts st i [] b k m h s = absurd s
in_parts st i (p ∷ ps) b k m h s = elim s [
  | inl y ↦ subst (NamesHead b) y.2 h.0
  | inr z ↦ in_parts st (suc i) ps b k m h.1 z
]

in_steps : (ss : List Step) (b k : ℕ) (m : Made) → Every (λ (st : Step). OldHave NamesHead st.parts) ss → IsStated ss b k m → NamesHead b m.old
in_steps [] b k m h s = absurd s
in_steps (st ∷ ss) b k m h s = elim s [
  | inl y ↦ in_parts st 0 st.parts b k m h.0 y.2
  | inr z ↦ in_steps ss b k m h.1 z
]

seen_names : (ss : List Step) (c : Writer → UndoAddr → Bool) (b k : ℕ) (i : Slot) (ms : List Made) → Every (λ (st : Step). OldHave NamesHead st.parts) ss → NamesHead b i → EachMade (IsStated ss b k) ms → NamesHead b (first_counted c i ms)
seen_names ss c b k i [] h n s = n
seen_names ss c b k i (m ∷ ms) h n s = elim (c m.by m.undo) as (λ v. NamesHead b (cond v i (first_counted c m.old ms))) [
  | true ↦ n
  | false ↦ seen_names ss c b k m.old ms h (in_steps ss b k m h s.0) s.1
]

pub bodies_name_heads : BodiesNameHeads
bodies_name_heads sh R b k s t h e =
    let a = all_have sh NamesHead kept (puts sh) R h in
    seen_names (standing R) (λ w u. counts R s t w) b k (image R b k) (makers R b k) a.steps (a.images b k) (slots_are_chains sh R b k h).stated e
