-- The cursor of a shrink under way stands at one of the table's positions.
use Rattle.std.proofs.Common.{◌≡◌, ◌⊎◌, ℕ, zero, suc, ◌+◌, ◌<◌, ◌≤◌, true, false, cond, List, [], ◌∷◌, length, length-append, refl, ◌∙◌, ap, arith, inl, inr}
use Rattle.seg_words.specs.Types.{Shape}
use Rattle.redo_model.specs.Records.{Record}
use Rattle.redo_model.specs.Model.{data_blocks, extents_of, is_formatted}
use Rattle.redo_laws.proofs.numbers.Bounds.{limits}
use Rattle.mark_laws.proofs.ThereLaw.{tables_have_extents}
use Rattle.data_places.specs.Places.{data_count}
use Rattle.data_places.proofs.PlacesLaw.{counts_are_told}
use Rattle.shrink_laws.specs.Stops.{last_formatted, last_position}
use Rattle.shrink_move.specs.There.{CursorsAreThere}

last_below : (sh : Shape) (B : List Record) (i was : ℕ) (bs : List ℕ) → (last_position sh B i was bs ≡ was) ⊎ (last_position sh B i was bs < i + length bs)
last_below sh B i was [] = inl refl
last_below sh B i was (b ∷ bs) =
    (elim (is_formatted sh B b) as (λ v. (last_position sh B (suc i) (cond v i was) bs ≡ was) ⊎ (last_position sh B (suc i) (cond v i was) bs < i + suc (length bs))) [
      | true ↦ elim (last_below sh B (suc i) i bs) [ inl e ↦ inr (omega (arith, e)) | inr l ↦ inr (omega (arith, l)) ]
      | false ↦ elim (last_below sh B (suc i) was bs) [ inl e ↦ inl e | inr l ↦ inr (omega (arith, l)) ]
    ])

-- a table has a data block
some_data : (sh : Shape) (n : ℕ) → 8 ≤ sh.extent → 1 ≤ n → 1 ≤ data_count sh n
some_data sh zero l m = absurd (omega (arith, m))
some_data sh (suc zero) l m = omega (arith, l)
some_data sh (suc (suc n)) l m = let k = some_data sh (suc n) l (omega arith) in omega (arith, k)

pub cursors_are_there : CursorsAreThere
cursors_are_there sh B R o skips cursor s l t c =
    let most = c.within in
    let some = some_data sh (length (extents_of B o)) (limits sh s).extent_from (tables_have_extents sh B o l t).one in
    let told = counts_are_told sh (extents_of B o) in
    let grown = ap (λ (bs : List ℕ). length bs) c.grown ∙ length-append (data_blocks sh B o) c.far in
    elim (last_below sh B 0 0 (data_blocks sh B o)) [
      | inl e ↦ (let z : last_formatted sh B o ≡ 0 = e in omega (arith, most, z, some, told, grown))
      | inr k ↦ (let z : last_formatted sh B o < 0 + length (data_blocks sh B o) = k in omega (arith, most, z, grown))
    ]
