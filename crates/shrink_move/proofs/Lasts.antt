-- The last formatted position, looked for from the greatest one down.
use Rattle.std.proofs.Common.{◌≡◌, ◌⊎◌, ℕ, zero, suc, ◌+◌, ◌-◌, ◌<◌, ◌≤◌, Bool, true, false, cond, eqb, not, List, [], ◌∷◌, length, slice_get, Some, refl, sym, ◌∙◌, ap, subst, arith, inl, inr, true≢false, eq-eqb, eqb-true}
use Rattle.seg_words.proofs.Lemmas.{cond-true, cond-false, cases_Bool}
use Rattle.seg_words.specs.Types.{Shape}
use Rattle.disk_model.specs.Crash.{Meaning}
use Rattle.redo_model.specs.Records.{Record}
use Rattle.redo_model.specs.Model.{extents_of, data_blocks, is_formatted}
use Rattle.data_places.specs.Places.{data_count}
use Rattle.data_places.proofs.PlacesLaw.{counts_are_told}
use Rattle.store_core.specs.Store.{Held}
use Rattle.shrink_laws.specs.Stops.{IsAt, last_formatted, last_position}
use Rattle.shrink_move.specs.declared.ground.Ground.{Ground}
use Rattle.shrink_move.specs.declared.walking.Coded.{Coded}
use Rattle.shrink_move.specs.Known.{Knows}
use Rattle.shrink_move.specs.Walks.{FormattedAt, IsCoded}
use Rattle.shrink_move.proofs.Knowing.{allowed_here}
use Rattle.shrink_move.proofs.Placing.{at_same, block_inside, no_block}
use Rattle.shrink_move.proofs.Coming.{coded_formatted, coded_free}

-- ---- the definition by positions

last_none : (sh : Shape) (B : List Record) (i was : ℕ) (bs : List ℕ) → ((k b : ℕ) → slice_get bs k ≡ Some b → is_formatted sh B b ≡ false) → last_position sh B i was bs ≡ was
last_none sh B i was [] h = refl
last_none sh B i was (b ∷ bs) h = ap (λ w. last_position sh B (suc i) w bs) (cond-false (is_formatted sh B b) i was (h 0 b refl)) ∙ last_none sh B (suc i) was bs (λ k c e. h (suc k) c e)

last_here : (sh : Shape) (B : List Record) (i was k b : ℕ) (bs : List ℕ) → slice_get bs k ≡ Some b → is_formatted sh B b ≡ true → ((j c : ℕ) → k < j → slice_get bs j ≡ Some c → is_formatted sh B c ≡ false) → last_position sh B i was bs ≡ i + k
last_here sh B i was k b [] e y h = no_block b e
last_here sh B i was zero b (c ∷ bs) e y h =
    ap (λ w. last_position sh B (suc i) w bs) (cond-true (is_formatted sh B c) i was (ap (is_formatted sh B) (block_inside c b e) ∙ y))
    ∙ last_none sh B (suc i) i bs (λ j d f. h (suc j) d (omega arith) f)
    ∙ (let z : i ≡ i + 0 = omega arith in z)
last_here sh B i was (suc k) b (c ∷ bs) e y h =
    last_here sh B (suc i) (cond (is_formatted sh B c) i was) k b bs e y (λ j d l f. h (suc j) d (omega (arith, l)) f)
    ∙ (let z : suc i + k ≡ i + suc k = omega arith in z)

-- ---- the walk

-- from the position with so many passed on none is formatted
abbrev pub NoneFormatted : Ground → ℕ → ℕ → List Record → ℕ → Type 0
NoneFormatted g count passed R o = (i b : ℕ) → count ≤ i + passed → IsAt g.shape R o i b → is_formatted g.shape R b ≡ false

pub none_from : (g : Ground) (count : ℕ) (R : List Record) (o : ℕ) → count ≡ length (data_blocks g.shape R o) → NoneFormatted g count 0 R o
none_from g count R o e i b l at = past (data_blocks g.shape R o) i b at (omega (arith, l, e))
  where
    past : {P : Type 0} (bs : List ℕ) (i b : ℕ) → slice_get bs i ≡ Some b → length bs ≤ i → P
    past [] i b h l = no_block b h
    past (x ∷ bs) zero b h l = absurd (omega (arith, l))
    past (x ∷ bs) (suc i) b h l = past bs i b h (omega (arith, l))

pub count_of : {D : Type 0} (meaning : Meaning D) (s : Held D) (R : List Record) (o count : ℕ) (g : Ground) → count ≡ data_count g.shape g.segment.extents → Knows meaning R o s g → count ≡ length (data_blocks g.shape R o)
count_of meaning s R o count g e k = e ∙ ap (data_count g.shape) k.segment.extents ∙ sym (counts_are_told g.shape (extents_of R o))

pub formatted_told : {D : Type 0} (meaning : Meaning D) (s : Held D) (R : List Record) (o n : ℕ) (g : Ground) (c : Coded) → Knows meaning R o s g → IsCoded g.shape R o n c → FormattedAt g.shape R o n (not (eqb c.code 0))
formatted_told meaning s R o n g c k w = record { block = c.dba; here = w.here; told = told (cases_Bool (eqb c.code 0)) }
  where
    told : (eqb c.code 0 ≡ true) ⊎ (eqb c.code 0 ≡ false) → not (eqb c.code 0) ≡ is_formatted g.shape R c.dba
    told (inl y) = ap not y ∙ sym (coded_free g.shape R o n c (allowed_here meaning s R o g k) w (eqb-true c.code 0 y))
    told (inr f) = ap not f ∙ sym (coded_formatted g.shape R o n c (allowed_here meaning s R o g k) w (λ e. true≢false (sym (eq-eqb c.code 0 e) ∙ f)))

pub none_more : (g : Ground) (count passed n : ℕ) (y : Bool) (R : List Record) (o : ℕ) → passed < count → n ≡ count - 1 - passed → y ≡ false → FormattedAt g.shape R o n y → NoneFormatted g count passed R o → NoneFormatted g count (passed + 1) R o
none_more g count passed n y R o l e f t h i b least at = elim (cases_Bool (eqb i n)) [
  | inl z ↦ (let same : t.block ≡ b = at_same (data_blocks g.shape R o) n t.block b t.here (subst (λ m. IsAt g.shape R o m b) (eqb-true i n z) at) in ap (is_formatted g.shape R) (sym same) ∙ sym t.told ∙ f)
  | inr z ↦ h i b (above (λ q. true≢false (sym (eq-eqb i n q) ∙ z))) at
]
  where
    above : (i ≡ n → ⊥) → count ≤ i + passed
    above z = omega (arith, least, z, l, e)

pub last_found : (g : Ground) (count passed n : ℕ) (y : Bool) (R : List Record) (o : ℕ) → passed < count → n ≡ count - 1 - passed → y ≡ true → FormattedAt g.shape R o n y → NoneFormatted g count passed R o → n ≡ last_formatted g.shape R o
last_found g count passed n y R o l e f t h =
    sym (last_here g.shape R 0 0 n t.block (data_blocks g.shape R o) t.here (sym t.told ∙ f) (λ j c m at. h j c (omega (arith, m, l, e)) at) ∙ (let z : 0 + n ≡ n = omega arith in z))

pub last_zero : (g : Ground) (count passed : ℕ) (R : List Record) (o : ℕ) → count ≤ passed → NoneFormatted g count passed R o → 0 ≡ last_formatted g.shape R o
last_zero g count passed R o l h = sym (last_none g.shape R 0 0 (data_blocks g.shape R o) (λ k b e. h k b (omega (arith, l)) e))
