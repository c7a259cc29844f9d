-- The record by what was read is the one that the list drafts.
use Rattle.std.proofs.Common.{◌≡◌, ℕ, ◌≤◌, min, List, length, map, drop, take, refl, sym, ◌∙◌, ap, ap₂, subst}
use Rattle.std.proofs.lemmas.List.{length-take-le}
use Rattle.disk_model.specs.Crash.{Meaning}
use Rattle.redo_model.specs.Records.{Record, LowerRecord}
use Rattle.redo_model.specs.Model.{Extent, extents_of, data_of, high_mark}
use Rattle.data_places.specs.Places.{data_count}
use Rattle.data_places.proofs.PlacesLaw.{counts_are_told}
use Rattle.store_core.specs.Store.{Held}
use Rattle.lower_laws.specs.Drafts.{lower_to}
use Rattle.lower_laws.proofs.LowersLaw.{lower_same}
use Rattle.lowering.specs.declared.ground.Ground.{Ground}
use Rattle.lowering.specs.declared.groups.Groups.{Groups}
use Rattle.lowering.specs.declared.draft.Tops.{Tops}
use Rattle.lowering.specs.Drafted.{AreGroups, AreTops, record_with}
use Rattle.lowering.specs.Known.{Knows}

kept_few : {D : Type 0} (meaning : Meaning D) (s : Held D) (R : List Record) (o kept : ℕ) (g : Ground) → Knows meaning R o s g → kept ≤ g.segment.extents → kept ≤ length (extents_of R o)
kept_few meaning s R o kept g k l = subst (λ (n : ℕ). kept ≤ n) k.segment.extents l

pub lower_drafted : {D : Type 0} (meaning : Meaning D) (s : Held D) (R : List Record) (o kept : ℕ) (g : Ground) (levels : Groups) (tops : Tops) (released : List ℕ) (rec : LowerRecord) → Knows meaning R o s g → kept ≤ g.segment.extents → AreGroups g.shape R o kept levels → AreTops g.shape R o tops
    → released ≡ map (λ (e : Extent). e.number) (drop kept (extents_of R o)) → rec ≡ record_with g kept levels tops released → rec ≡ lower_to g.shape R o kept
lower_drafted meaning s R o kept g levels tops released rec k few a t r e =
    let count : data_count g.shape kept ≡ length (data_of g.shape 0 (take kept (extents_of R o))) = sym (counts_are_told g.shape (take kept (extents_of R o)) ∙ ap (data_count g.shape) (length-take-le kept (extents_of R o) (kept_few meaning s R o kept g k few))) in
    let high : min g.segment.high (data_count g.shape kept) ≡ min (high_mark R o) (length (data_of g.shape 0 (take kept (extents_of R o)))) = ap₂ (λ (x y : ℕ). min x y) k.segment.high count in
    e ∙ lower_same (record_with g kept levels tops released) (lower_to g.shape R o kept)
    k.segment.obj k.segment.header t.lowering refl
    (ap₂ (λ (x y : ℕ). min x y) k.segment.low high)
    high a.l2 t.l3 a.bests r
