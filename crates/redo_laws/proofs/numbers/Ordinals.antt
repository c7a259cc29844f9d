-- Each number is given once: what is given is one more than the count of those given before.
use Rattle.std.proofs.Common.{◌≡◌, ℕ, suc, Bool, true, false, eqb, List, [], ◌∷◌, Option, Some, None, refl, sym, ◌∙◌, ap, arith, inl, inr, eqb-true, ne_eqb}
use Rattle.seg_words.proofs.Lemmas.{cond_both, cond-true, cond-false, cases_Bool, eqb-false}
use Rattle.seg_words.specs.Types.{Shape}
use Rattle.redo_model.specs.Records.{Record, Insert, Begin, Commit, Move, Lower}
use Rattle.redo_model.specs.Model.{is_commit, is_insert, is_begin, is_lower, count_of, MoveAllowed, IsKindAllowed}
use Rattle.redo_model.specs.AllowedMoves.{moves_plain, moves_to_body, moves_migrated}
use Rattle.redo_laws.specs.Numbers.{row_given, txn_given, commit_given, lowering_given, one_if, times_given, GivenOnce, NumbersAreGivenOnce, NumbersAreGivenInOrder}

-- a record of the kind gives the next number, and no other record gives one
record Gives (given : Option ℕ) (counted : Bool) (count : ℕ) : Type 0 where
  next : counted ≡ true → given ≡ Some (suc count)
  nothing : counted ≡ false → given ≡ None

gives_none : (count : ℕ) → Gives None false count
gives_none count = record { next = λ h. absurd (let x : true ≡ false = sym h in cc); nothing = λ h. refl }

gives_next : (n count : ℕ) → n ≡ suc count → Gives (Some n) true count
gives_next n count e = record { next = λ h. ap Some e; nothing = λ h. absurd cc }

times_after : (given : Record → Option ℕ) (R : List Record) (r : Record) (o : Option ℕ) (n : ℕ) → given r ≡ o → times_given given (r ∷ R) n ≡ one_if o n (times_given given R n)
times_after given R r o n e = ap (λ x. one_if x n (times_given given R n)) e

once_next : (given : Record → Option ℕ) (R : List Record) (r : Record) (count : ℕ) → given r ≡ Some (suc count) → GivenOnce given R count → GivenOnce given (r ∷ R) (suc count)
once_next given R r count e h = record {
  once = λ n one most. times_after given R r (Some (suc count)) n e ∙ elim (cases_Bool (eqb (suc count) n)) [
    | inl y ↦ cond-true _ _ _ y ∙ ap (λ x. suc x) (h.none_later n (let same : suc count ≡ n = eqb-true _ n y in omega arith))
    | inr f ↦ cond-false _ _ _ f ∙ (let ne : suc count ≡ n → ⊥ = eqb-false _ n f in h.once n one (omega arith))
  ];
  none_later = λ n l. times_after given R r (Some (suc count)) n e ∙ cond-false _ _ _ (ne_eqb (suc count) n (λ x. omega arith)) ∙ h.none_later n (omega arith);
  no_zero = times_after given R r (Some (suc count)) 0 e ∙ cond-false _ _ _ (ne_eqb (suc count) 0 (λ x. omega arith)) ∙ h.no_zero;
}

once_still : (given : Record → Option ℕ) (R : List Record) (r : Record) (count : ℕ) → given r ≡ None → GivenOnce given R count → GivenOnce given (r ∷ R) count
once_still given R r count e h = record {
  once = λ n one most. times_after given R r None n e ∙ h.once n one most;
  none_later = λ n l. times_after given R r None n e ∙ h.none_later n l;
  no_zero = times_after given R r None 0 e ∙ h.no_zero;
}

once_more : (given : Record → Option ℕ) (p : Record → Bool) (R : List Record) (r : Record) → Gives (given r) (p r) (count_of p R) → GivenOnce given R (count_of p R) → GivenOnce given (r ∷ R) (count_of p (r ∷ R))
once_more given p R r g h =
    cond_both (p r) (suc (count_of p R)) (count_of p R) (λ n. GivenOnce given (r ∷ R) n)
    (λ y. once_next given R r (count_of p R) (g.next y) h)
    (λ f. once_still given R r (count_of p R) (g.nothing f) h)

gives_row : (sh : Shape) (R : List Record) (r : Record) → IsKindAllowed sh R r → Gives (row_given r) (is_insert r) (count_of is_insert R)
gives_row sh R (Insert w) a = gives_next w.row (count_of is_insert R) a.number
gives_row sh R _ a = gives_none (count_of is_insert R)

gives_txn : (sh : Shape) (R : List Record) (r : Record) → IsKindAllowed sh R r → Gives (txn_given r) (is_begin r) (count_of is_begin R)
gives_txn sh R (Begin g) a = gives_next g.txn (count_of is_begin R) a.number
gives_txn sh R _ a = gives_none (count_of is_begin R)

gives_lowering : (sh : Shape) (R : List Record) (r : Record) → IsKindAllowed sh R r → Gives (lowering_given r) (is_lower r) (count_of is_lower R)
gives_lowering sh R (Lower l) a = gives_next l.lowering (count_of is_lower R) a.lowering
gives_lowering sh R _ a = gives_none (count_of is_lower R)

pub move_number : (sh : Shape) (R : List Record) (m : _) → MoveAllowed sh R m → m.number ≡ suc (count_of is_commit R)
move_number sh R m (moves_plain a) = a.move.number
move_number sh R m (moves_to_body a) = a.move.number
move_number sh R m (moves_migrated a) = a.move.number

gives_commit : (sh : Shape) (R : List Record) (r : Record) → IsKindAllowed sh R r → Gives (commit_given r) (is_commit r) (count_of is_commit R)
gives_commit sh R (Commit c) a = gives_next c.number (count_of is_commit R) a.number
gives_commit sh R (Move m) a = gives_next m.number (count_of is_commit R) (move_number sh R m a)
gives_commit sh R _ a = gives_none (count_of is_commit R)

none_yet : (given : Record → Option ℕ) → GivenOnce given [] 0
none_yet given = record { once = λ n one most. absurd (omega arith); none_later = λ n l. refl; no_zero = refl }

pub numbers_are_given_once : NumbersAreGivenOnce
numbers_are_given_once sh [] h = record { rows = none_yet row_given; txns = none_yet txn_given; commits = none_yet commit_given; lowerings = none_yet lowering_given }
numbers_are_given_once sh (r ∷ R) h =
    let was = numbers_are_given_once sh R h.0 in
    let a = h.1.kind in
    record {
      rows = once_more row_given is_insert R r (gives_row sh R r a) was.rows;
      txns = once_more txn_given is_begin R r (gives_txn sh R r a) was.txns;
      commits = once_more commit_given is_commit R r (gives_commit sh R r a) was.commits;
      lowerings = once_more lowering_given is_lower R r (gives_lowering sh R r a) was.lowerings;
    }

gives_only : (given : Option ℕ) (counted : Bool) (count n : ℕ) → Gives given counted count → given ≡ Some n → n ≡ suc count
gives_only given true count n g e = let x : ◌≡◌ {A = Option ℕ} (Some n) (Some (suc count)) = sym e ∙ g.next refl in cc
gives_only given false count n g e = absurd (let x : ◌≡◌ {A = Option ℕ} None (Some n) = sym (g.nothing refl) ∙ e in cc)

pub numbers_are_given_in_order : NumbersAreGivenInOrder
numbers_are_given_in_order sh R r h = record {
  row = λ n e. gives_only (row_given r) (is_insert r) (count_of is_insert R) n (gives_row sh R r h.1.kind) e;
  txn = λ n e. gives_only (txn_given r) (is_begin r) (count_of is_begin R) n (gives_txn sh R r h.1.kind) e;
  commit = λ n e. gives_only (commit_given r) (is_commit r) (count_of is_commit R) n (gives_commit sh R r h.1.kind) e;
  lowering = λ n e. gives_only (lowering_given r) (is_lower r) (count_of is_lower R) n (gives_lowering sh R r h.1.kind) e;
}
