-- A row number, a transaction number, a commit number and a lowering are each given once, in order.
use Rattle.std.specs.Prelude.{◌≡◌, ℕ, suc, ◌≤◌, ◌<◌, cond, eqb, List, [], ◌∷◌, Option, Some, None}
use Rattle.seg_words.specs.Types.{Shape}
use Rattle.redo_model.specs.Records.{Record, Insert, Begin, Commit, Move, Lower}
use Rattle.redo_model.specs.Model.{commit_count, row_count, txn_count, lowering_count, AreAllowed}

-- the number that a record gives, of the kind asked for

abbrev pub row_given : Record → Option ℕ
row_given (Insert w) = Some w.row
row_given _ = None

abbrev pub txn_given : Record → Option ℕ
txn_given (Begin g) = Some g.txn
txn_given _ = None

abbrev pub commit_given : Record → Option ℕ
commit_given (Commit c) = Some c.number
commit_given (Move m) = Some m.number
commit_given _ = None

abbrev pub lowering_given : Record → Option ℕ
lowering_given (Lower l) = Some l.lowering
lowering_given _ = None

abbrev pub one_if : Option ℕ → ℕ → ℕ → ℕ
one_if None n count = count
one_if (Some m) n count = cond (eqb m n) (suc count) count

-- how often number n is given
abbrev pub times_given : (Record → Option ℕ) → List Record → ℕ → ℕ
times_given given [] n = 0
times_given given (r ∷ R) n = one_if (given r) n (times_given given R n)

-- the numbers from 1 to `count` are given once each, and no others
pub record GivenOnce (given : Record → Option ℕ) (R : List Record) (count : ℕ) : Type 0 where
  pub once : (n : ℕ) → 1 ≤ n → n ≤ count → times_given given R n ≡ 1
  pub none_later : (n : ℕ) → count < n → times_given given R n ≡ 0
  pub no_zero : times_given given R 0 ≡ 0

pub record NumbersOnce (R : List Record) : Type 0 where
  pub rows : GivenOnce row_given R (row_count R)
  pub txns : GivenOnce txn_given R (txn_count R)
  pub commits : GivenOnce commit_given R (commit_count R)
  pub lowerings : GivenOnce lowering_given R (lowering_count R)

abbrev pub NumbersAreGivenOnce : Type 0
NumbersAreGivenOnce = (sh : Shape) (R : List Record) → AreAllowed sh R → NumbersOnce R

-- a record that gives a number gives the next one
pub record NumbersNext (R : List Record) (r : Record) : Type 0 where
  pub row : (n : ℕ) → row_given r ≡ Some n → n ≡ suc (row_count R)
  pub txn : (n : ℕ) → txn_given r ≡ Some n → n ≡ suc (txn_count R)
  pub commit : (n : ℕ) → commit_given r ≡ Some n → n ≡ suc (commit_count R)
  pub lowering : (n : ℕ) → lowering_given r ≡ Some n → n ≡ suc (lowering_count R)

abbrev pub NumbersAreGivenInOrder : Type 0
NumbersAreGivenInOrder = (sh : Shape) (R : List Record) (r : Record) → AreAllowed sh (r ∷ R) → NumbersNext R r
