-- The bytes of whole records split in one way.
use Rattle.std.proofs.Common.{◌≡◌, ℕ, suc, ◌+◌, ◌<◌, ◌≤◌, List, [], ◌∷◌, ◌++◌, length, take, drop, reverse, refl, sym, ◌∙◌, ap, subst, arith, append_assoc, length-append, append-nil, take-append-drop, drop_at, drop-drop, length-drop}
use Rattle.seg_words.proofs.Lemmas.{reverse-append, flat_map-append, flat_map-cons}
use Rattle.redo_record.specs.declared.record.Record.{Record}
use Rattle.redo_record.specs.Spelling.{spelling}
use Rattle.redo_record.specs.Spelled.{HasSpelling}
use Rattle.redo_record.specs.Payloads.{payload, HaveSpellings}
use Rattle.redo_record.specs.Decoding.{StandsAt}
use Rattle.redo_record.proofs.Records.{one_spelling}
use Rattle.redo_record.proofs.Decoded.{splits_once}
use Rattle.redo_log.specs.Kept.{spelled, AreSpelled, Holds}
use Rattle.redo_log.specs.Groups.{Breaks}

-- the newest first, and in order
turned : (r : Record) (R : List Record) → reverse (r ∷ R) ≡ reverse R ++ r ∷ []
turned r R = reverse-append (r ∷ []) R

in_order : (R : List Record) → spelled R ≡ payload (reverse R)
in_order [] = refl
in_order (r ∷ R) =
    ap (λ (l : List ℕ). l ++ spelling r) (in_order R) ∙ ap (λ (l : List ℕ). payload (reverse R) ++ l) (sym (append-nil (spelling r)) ∙ sym (flat_map-cons spelling r []))
    ∙ sym (flat_map-append spelling (reverse R) (r ∷ [])) ∙ ap payload (sym (turned r R))

more_spelled : (a : List Record) (r : Record) → HaveSpellings a → HasSpelling r → HaveSpellings (a ++ r ∷ [])
more_spelled [] r all has = (has, tt)
more_spelled (x ∷ a) r all has = (all.0, more_spelled a r all.1 has)

all_spelled : (R : List Record) → AreSpelled R → HaveSpellings (reverse R)
all_spelled [] all = tt
all_spelled (r ∷ R) all = subst HaveSpellings (sym (turned r R)) (more_spelled (reverse R) r (all_spelled R all.0) all.1)

turn_back : (R : List Record) → reverse (reverse R) ≡ R
turn_back [] = refl
turn_back (r ∷ R) = ap reverse (turned r R) ∙ reverse-append (reverse R) (r ∷ []) ∙ ap (λ (l : List Record). r ∷ l) (turn_back R)

pub spelled_once : (a b : List Record) → AreSpelled a → AreSpelled b → spelled a ≡ spelled b → a ≡ b
spelled_once a b ha hb same = sym (turn_back a) ∙ ap reverse (splits_once (reverse a) (reverse b) (all_spelled a ha) (all_spelled b hb) (sym (in_order a) ∙ same ∙ in_order b)) ∙ turn_back b

pub holds_once : (groups : List (List ℕ)) (R0 R S : List Record) → Holds groups R0 R → Holds groups R0 S → R ≡ S
holds_once [] R0 R S h k = h ∙ sym k
holds_once (g ∷ groups) R0 R S h k =
    let same = spelled_once h.0 k.0 h.2 k.2 (sym h.1 ∙ k.1) in
    holds_once groups (k.0 ++ R0) R S (subst (λ (n : List Record). Holds groups (n ++ R0) R) same h.3) k.3

-- some records in front of others
pub record Rest (rest : List ℕ) : Type 0 where
  pub records : List Record
  pub spells : HaveSpellings records
  pub is : rest ≡ payload records

in_front : (a b : List Record) (rest : List ℕ) → HaveSpellings a → HaveSpellings b → payload a ≡ payload b ++ rest → Rest rest
in_front a [] rest ha hb same = record { records = a; spells = ha; is = sym same }
in_front [] (y ∷ b) rest ha hb same =
    let split : [] ≡ spelling y ++ payload b ++ rest = same ∙ ap (λ (l : List ℕ). l ++ rest) (flat_map-cons spelling y b) in
    absurd (omega (arith, ap (λ (l : List ℕ). length l) split, length-append (spelling y ++ payload b) rest, length-append (spelling y) (payload b)))
in_front (x ∷ a) (y ∷ b) rest ha hb same =
    let split : spelling x ++ payload a ≡ spelling y ++ (payload b ++ rest) = sym (flat_map-cons spelling x a) ∙ same ∙ ap (λ (l : List ℕ). l ++ rest) (flat_map-cons spelling y b) ∙ append_assoc (spelling y) (payload b) rest in
    in_front a b rest ha.1 hb.1 (one_spelling x y (payload a) (payload b ++ rest) ha.0 hb.0 split).1

-- whole records break nowhere
pub never_breaks : (bytes : List ℕ) (R : List Record) (place : ℕ) → bytes ≡ spelled R → AreSpelled R → Breaks bytes place → ⊥
never_breaks bytes R place whole spells breaks =
    let split : payload (reverse R) ≡ payload (reverse breaks.front) ++ drop place bytes = sym (in_order R) ∙ sym whole ∙ sym (take-append-drop place bytes) ∙ ap (λ (l : List ℕ). l ++ drop place bytes) (breaks.whole ∙ in_order breaks.front) in
    let rest = in_front (reverse R) (reverse breaks.front) (drop place bytes) (all_spelled R spells) (all_spelled breaks.front breaks.spells) split in
    at rest.records rest.spells rest.is
  where
    at : (records : List Record) → HaveSpellings records → drop place bytes ≡ payload records → ⊥
    at [] all is = omega (arith, ap (λ (l : List ℕ). length l) is, length-drop place bytes, breaks.within)
    at (z ∷ records) all is =
        let here : drop place bytes ≡ spelling z ++ payload records = is ∙ flat_map-cons spelling z records in
        breaks.none z (place + length (spelling z)) (record {
          has = all.0;
          spelled = here ∙ ap (λ (l : List ℕ). spelling z ++ l) (sym (drop_at (spelling z) (payload records) (length (spelling z)) refl) ∙ ap (drop (length (spelling z))) (sym here) ∙ drop-drop (length (spelling z)) place bytes);
          ends = refl;
        })
