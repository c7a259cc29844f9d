-- Whose a record is. A session has at most one active transaction (Oracle Database Concepts, "Transactions": a session's
-- statements belong to its current one); a record of a transaction is of the session that began it. This engine's own:
-- sessions are numbered from 1 to 64.
use Rattle.std.specs.Prelude.{◌≡◌, ℕ, suc, Bool, false, cond, eqb, List, [], ◌∷◌, Option, Some, None}
use Rattle.seg_words.specs.Types.{Writer, By, At}
use Rattle.redo_model.specs.Records.{Record, Begin, Insert, Update, Migrate, Return, Delete, Commit, Back, Ended}
use Rattle.redo_model.specs.Model.{TxnEffect, txn_effect, Effect, effect_of, is_backed}
use Rattle.redo_model.specs.Effects.{Keeps, Begins, Commits, Ends, Adds}

abbrev pub without_txn : ℕ → Option ℕ → Option ℕ
without_txn u None = None
without_txn u (Some t) = cond (eqb u t) None (Some t)

abbrev pub own_after : TxnEffect → ℕ → Option ℕ → Option ℕ
own_after (Begins g) w was = cond (eqb g.session w) (Some g.txn) was
own_after (Commits c) w was = without_txn c.txn was
own_after (Ends e) w was = without_txn e.txn was
own_after Keeps w was = was

-- the active transaction of session w
abbrev pub own_of : List Record → ℕ → Option ℕ
own_of [] w = None
own_of (r ∷ R) w = own_after (txn_effect r) w (own_of R w)

-- a transaction as views and scans name it: 0 for none
abbrev pub txn_or_zero : Option ℕ → ℕ
txn_or_zero None = 0
txn_or_zero (Some t) = t

abbrev pub own_number : List Record → ℕ → ℕ
own_number R w = txn_or_zero (own_of R w)

abbrev pub backed_of : List Record → Option ℕ → Bool
backed_of R None = false
backed_of R (Some t) = is_backed R t

-- something of session w's active transaction is taken back
abbrev pub own_backed : List Record → ℕ → Bool
own_backed R w = backed_of R (own_of R w)

-- the record is of session w: it begins a transaction of w, or is one of w's active transaction, or is of no transaction
abbrev pub IsOf : List Record → ℕ → Record → Type 0
IsOf R w (Begin g) = g.session ≡ w
IsOf R w (Insert x) = own_of R w ≡ Some x.txn
IsOf R w (Update x) = own_of R w ≡ Some x.txn
IsOf R w (Migrate x) = own_of R w ≡ Some x.txn
IsOf R w (Return x) = own_of R w ≡ Some x.txn
IsOf R w (Delete x) = own_of R w ≡ Some x.txn
IsOf R w (Commit c) = own_of R w ≡ Some c.txn
IsOf R w (Back k) = own_of R w ≡ Some k.txn
IsOf R w (Ended e) = own_of R w ≡ Some e.txn
IsOf R w _ = Unit {0}

abbrev pub txn_of_writer : Writer → Option ℕ
txn_of_writer (By t) = Some t
txn_of_writer (At c) = None

-- the transaction of a row record
abbrev pub row_txn : Effect → Option ℕ
row_txn (Adds st) = txn_of_writer st.by
row_txn _ = None

abbrev pub is_same : Option ℕ → Option ℕ → Bool
is_same None own = false
is_same (Some t) None = false
is_same (Some t) (Some u) = eqb t u

-- how many row records session w has made
abbrev pub own_rows : List Record → ℕ → ℕ
own_rows [] w = 0
own_rows (r ∷ R) w = cond (is_same (row_txn (effect_of r)) (own_of R w)) (suc (own_rows R w)) (own_rows R w)

abbrev pub begins_after : TxnEffect → ℕ → ℕ → ℕ
begins_after (Begins g) w n = cond (eqb g.session w) (suc n) n
begins_after _ w n = n

-- how many transactions session w has begun
abbrev pub own_begins : List Record → ℕ → ℕ
own_begins [] w = 0
own_begins (r ∷ R) w = begins_after (txn_effect r) w (own_begins R w)
