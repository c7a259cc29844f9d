-- What stands at a place is read there.
use Rattle.std.proofs.Common.{◌≡◌, ℕ, ◌+◌, ◌-◌, ◌≤◌, List, [], ◌∷◌, ◌++◌, length, drop, Option, Some, None, Err, refl, sym, ap, ◌∙◌, arith, drop_at, drop-drop, length-append}
use Rattle.seg_words.proofs.Lemmas.{flat_map-cons}
use Rattle.redo_record.specs.Types.{Record, spelling, HasSpelling, record_at, ReadFault, Reads, StandsAt, StandsInFront, IsFirst, payload, HaveSpellings}
use Rattle.redo_record.proofs.Laws.{IsBytes}
use Rattle.redo_record.proofs.Records.{record_spells, one_spelling}
use Rattle.redo_record.specs.declared.fault.ReadFault.TheVariants as faults

pub rest_is_short : (bytes rest : List ℕ) (x : Record) → IsBytes bytes → record_at bytes ≡ Some (x, rest) → length rest ≤ length bytes
rest_is_short bytes rest x are e =
    let taken = record_spells.takes bytes x rest are e in
    omega (arith, ap length taken.0.parts, length-append (spelling x) rest)

pub read_in_front : (bytes rest : List ℕ) (x : Record) → IsBytes bytes → record_at bytes ≡ Some (x, rest) → StandsInFront x bytes (length bytes - length rest)
read_in_front bytes rest x are e =
    let taken = record_spells.takes bytes x rest are e in
    let len : length bytes - length rest ≡ length (spelling x) = omega (arith, ap length taken.0.parts, length-append (spelling x) rest) in
    let behind : drop (length bytes - length rest) bytes ≡ rest = ap (drop (length bytes - length rest)) taken.0.parts ∙ drop_at (spelling x) rest (length bytes - length rest) (sym len) in
    record { has = taken.1; spelled = taken.0.parts ∙ ap (λ (t : List ℕ). spelling x ++ t) (sym behind); ends = len }

nothing_found : (x : Record × List ℕ) → ◌≡◌ {A = Option (Record × List ℕ)} None (Some x) → ⊥
nothing_found x e = absurd cc

pub none_in_front : (bytes : List ℕ) → record_at bytes ≡ None → (rec : Record) (rest : List ℕ) → HasSpelling rec → bytes ≡ spelling rec ++ rest → ⊥
none_in_front bytes e rec rest has is =
    let none : Option (Record × List ℕ) = None in
    let found : none ≡ Some (rec, rest) = sym e ∙ ap record_at is ∙ record_spells.again rec rest has in nothing_found (rec, rest) found

pub fails_in_front : (e : ReadFault) (bytes rest : List ℕ) → Reads (Err e) rest (record_at bytes) → IsFirst bytes (Err e)
fails_in_front faults.NotARecord bytes rest reads = none_in_front bytes reads
fails_in_front faults.NoMemory bytes rest reads = tt

pub stands_at : (bytes front : List ℕ) (at len : ℕ) (x : Record) → front ≡ drop at bytes → StandsInFront x front len → StandsAt x bytes at (at + len)
stands_at bytes front at len x is stands = record {
  has = stands.has;
  spelled = sym is ∙ stands.spelled ∙ ap (λ (t : List ℕ). spelling x ++ t) (ap (drop len) is ∙ drop-drop len at bytes);
  ends = ap (λ (n : ℕ). at + n) stands.ends;
}

pub stands_once : (bytes : List ℕ) (at next next' : ℕ) (x y : Record) → StandsAt x bytes at next → StandsAt y bytes at next' → (x ≡ y) × (next ≡ next')
stands_once bytes at next next' x y a b =
    let same = one_spelling x y (drop next bytes) (drop next' bytes) a.has b.has (sym a.spelled ∙ b.spelled) in
    (same.0, a.ends ∙ ap (λ (r : Record). at + length (spelling r)) same.0 ∙ sym b.ends)

pub none_stands : (bytes front : List ℕ) (at : ℕ) → front ≡ drop at bytes → ((rec : Record) (rest : List ℕ) → HasSpelling rec → front ≡ spelling rec ++ rest → ⊥) → (rec : Record) (next : ℕ) → StandsAt rec bytes at next → ⊥
none_stands bytes front at is none rec next stands = none rec (drop next bytes) stands.has (is ∙ stands.spelled)

pub splits_once : (a b : List Record) → HaveSpellings a → HaveSpellings b → payload a ≡ payload b → a ≡ b
splits_once [] [] ha hb e = refl
splits_once [] (b ∷ bs) ha hb e = let empty : [] ≡ spelling b ++ payload bs = e ∙ flat_map-cons spelling b bs in absurd cc
splits_once (a ∷ as') [] ha hb e = let empty : spelling a ++ payload as' ≡ [] = sym (flat_map-cons spelling a as') ∙ e in absurd cc
splits_once (a ∷ as') (b ∷ bs) ha hb e =
    let heads : spelling a ++ payload as' ≡ spelling b ++ payload bs = sym (flat_map-cons spelling a as') ∙ e ∙ flat_map-cons spelling b bs in
    let same = one_spelling a b (payload as') (payload bs) ha.0 hb.0 heads in
    rw (same.0, splits_once as' bs ha.1 hb.1 same.1) refl
