-- What a lowering's answer means.
use Rattle.std.proofs.Common.{◌≡◌, ℕ, ◌<◌, true, List, length, drop, refl, sym, arith, inl, inr, ltb-true}
use Rattle.std.proofs.lemmas.List.{length-drop}
use Rattle.seg_words.proofs.Lemmas.{cond-true, cond-false, cases_Bool, length-map}
use Rattle.seg_words.specs.Types.{Shape}
use Rattle.redo_model.specs.Records.{Record}
use Rattle.redo_model.specs.Model.{Extent, extents_of}
use Rattle.mark_laws.proofs.TablesThere.{has_one}
use Rattle.lower_laws.specs.Drafts.{kept_extents, releases, drafted_lower}
use Rattle.lower_laws.proofs.LowersLaw.{high_after, lowers_are_allowed, with_none, with_some}
use Rattle.lowering.specs.Means.{LoweringsMean}

some_released : (sh : Shape) (R : List Record) (o : ℕ) → releases sh R o ≡ true → 0 < length (drafted_lower sh R o).released
some_released sh R o y =
    let l = ltb-true (kept_extents sh R o) (length (extents_of R o)) y in
    let n = length-map (drop (kept_extents sh R o) (extents_of R o)) (λ (e : Extent). e.number) in
    let d = length-drop (kept_extents sh R o) (extents_of R o) in
    omega (arith, l, n, d)

pub lowerings_mean : LoweringsMean
lowerings_mean sh R o h t = elim (cases_Bool (releases sh R o)) [
  | inl y ↦ inl (record {
    lower = drafted_lower sh R o;
    table = refl;
    list = with_some sh R o y;
    answer = cond-true _ _ _ y;
    some = some_released sh R o y;
    high = sym (high_after R (drafted_lower sh R o));
  })
  | inr f ↦ inr (record {
    one = (let l = has_one sh R o h.allowed h.whole t in omega (arith, l));
    all = (lowers_are_allowed sh R o h t).keeps_all f;
    list = with_none sh R o f;
    answer = cond-false _ _ _ f;
  })
]
