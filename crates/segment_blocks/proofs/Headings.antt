-- The header of the table with a number.
use Rattle.std.proofs.Common.{◌≡◌, ℕ, zero, suc, ◌-◌, ◌<◌, ◌≤◌, List, [], ◌∷◌, length, get_or, None, refl, ap, ◌∙◌, arith}
use Rattle.segment_blocks.specs.Types.{CatalogueEntry, header_of_table, header_of}

header_next : (es : List CatalogueEntry) (i : ℕ) (d : CatalogueEntry) → i < length es → header_of es (suc i) ≡ header_of_table (get_or es i d).table
header_next [] i d lt = absurd (omega (arith, lt))
header_next (e ∷ es) zero d lt = refl
header_next (e ∷ es) (suc i) d lt = header_next es i d (omega (arith, lt))

header_after : (es : List CatalogueEntry) (i : ℕ) → length es ≤ i → header_of es (suc i) ≡ None
header_after [] i le = refl
header_after (e ∷ es) zero le = absurd (omega (arith, le))
header_after (e ∷ es) (suc i) le = header_after es i (omega (arith, le))

pub header_there : (es : List CatalogueEntry) (n : ℕ) (d : CatalogueEntry) → 1 ≤ n → n - 1 < length es → header_of es n ≡ header_of_table (get_or es (n - 1) d).table
header_there es n d least lt = let e : n ≡ suc (n - 1) = omega (arith, least) in ap (header_of es) e ∙ header_next es (n - 1) d lt

pub header_beyond : (es : List CatalogueEntry) (n : ℕ) → 1 ≤ n → length es ≤ n - 1 → header_of es n ≡ None
header_beyond es n least le = let e : n ≡ suc (n - 1) = omega (arith, least) in ap (header_of es) e ∙ header_after es (n - 1) le
