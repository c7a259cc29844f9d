-- States of transactions. Oracle Database Concepts, "Transactions": one begins, and ends by a commit or a rollback. The
-- table of 96 entries, and that a transaction whose entry was taken is forgotten, is this engine's own.
use Rattle.std.specs.Prelude.{◌≡◌, ℕ, suc, Bool, true, false, cond, not, ◌&&◌, ◌||◌, eqb, ltb, List, [], ◌∷◌, Option, Some, None}
use Rattle.redo_model.specs.Records.{Record}
use Rattle.redo_model.specs.Effects.{TxnEffect, Keeps, Begins, Commits, Ends, txn_effect}
use Rattle.redo_model.specs.Ordinals.{commit_count}

abbrev pub active_after : TxnEffect → ℕ → Bool → Bool
active_after (Begins g) t on = eqb g.txn t || on
active_after (Commits c) t on = not (eqb c.txn t) && on
active_after (Ends e) t on = not (eqb e.txn t) && on
active_after Keeps t on = on

-- its Begin stands in the list, and neither its Commit nor its Ended does
abbrev pub is_active : List Record → ℕ → Bool
is_active [] t = false
is_active (r ∷ R) t = active_after (txn_effect r) t (is_active R t)

abbrev pub IsActive : List Record → ℕ → Type 0
IsActive R t = is_active R t ≡ true

-- as blocks are told which transactions have ended: those of which a block can speak have begun
abbrev pub ended_in : List Record → ℕ → Bool
ended_in R t = not (is_active R t)

abbrev pub begun_after : TxnEffect → ℕ → Bool → Bool
begun_after (Begins g) t was = eqb g.txn t || was
begun_after _ t was = was

abbrev pub has_begun : List Record → ℕ → Bool
has_begun [] t = false
has_begun (r ∷ R) t = begun_after (txn_effect r) t (has_begun R t)

-- it has begun and isn't active
abbrev pub has_ended : List Record → ℕ → Bool
has_ended R t = has_begun R t && not (is_active R t)

abbrev pub HasEnded : List Record → ℕ → Type 0
HasEnded R t = has_ended R t ≡ true

abbrev pub committed_after : TxnEffect → ℕ → ℕ → Option ℕ → Option ℕ
committed_after (Commits c) n t was = cond (eqb c.txn t) (Some (suc n)) was
committed_after _ n t was = was

-- its commit number: the ordinal of its Commit
abbrev pub commit_number : List Record → ℕ → Option ℕ
commit_number [] t = None
commit_number (r ∷ R) t = committed_after (txn_effect r) (commit_count R) t (commit_number R t)

abbrev pub among_after : TxnEffect → ℕ → ℕ → ℕ → Bool → Bool
among_after (Commits c) n s t was = (eqb c.txn t && ltb n s) || was
among_after _ n s t was = was

-- its Commit is among the first s commits
abbrev pub is_committed_by : List Record → ℕ → ℕ → Bool
is_committed_by [] s t = false
is_committed_by (r ∷ R) s t = among_after (txn_effect r) (commit_count R) s t (is_committed_by R s t)

abbrev pub rolled_after : TxnEffect → ℕ → Bool → Bool
rolled_after (Ends e) t was = eqb e.txn t || was
rolled_after _ t was = was

-- its Ended stands in the list
abbrev pub has_rolled_back : List Record → ℕ → Bool
has_rolled_back [] t = false
has_rolled_back (r ∷ R) t = rolled_after (txn_effect r) t (has_rolled_back R t)

abbrev pub control_after : TxnEffect → ℕ → ℕ
control_after (Begins g) c = g.control
control_after _ c = c

-- the control number of the last Begin, or 0
abbrev pub control_number : List Record → ℕ
control_number [] = 0
control_number (r ∷ R) = control_after (txn_effect r) (control_number R)

abbrev pub entry_after : TxnEffect → ℕ → Option ℕ → Option ℕ
entry_after (Begins g) t was = cond (eqb g.txn t) (Some g.entry) was
entry_after _ t was = was

-- the entry of the transaction table that its Begin took
abbrev pub entry_of : List Record → ℕ → Option ℕ
entry_of [] t = None
entry_of (r ∷ R) t = entry_after (txn_effect r) t (entry_of R t)

abbrev pub user_after : TxnEffect → ℕ → Option ℕ → Option ℕ
user_after (Begins g) i was = cond (eqb g.entry i) (Some g.txn) was
user_after _ i was = was

-- the transaction whose Begin took this entry last
abbrev pub user_of : List Record → ℕ → Option ℕ
user_of [] i = None
user_of (r ∷ R) i = user_after (txn_effect r) i (user_of R i)

abbrev pub is_entry : Option ℕ → ℕ → Bool
is_entry None i = false
is_entry (Some j) i = eqb j i

abbrev pub forgotten_after : TxnEffect → Option ℕ → Bool → Bool
forgotten_after (Begins g) entry was = is_entry entry g.entry || was
forgotten_after _ entry was = was

-- a later Begin took its entry
abbrev pub is_forgotten : List Record → ℕ → Bool
is_forgotten [] t = false
is_forgotten (r ∷ R) t = forgotten_after (txn_effect r) (entry_of R t) (is_forgotten R t)

abbrev pub IsForgotten : List Record → ℕ → Type 0
IsForgotten R t = is_forgotten R t ≡ true

abbrev pub session_after : TxnEffect → ℕ → Option ℕ → Option ℕ
session_after (Begins g) n was = cond (eqb g.session n) (Some g.txn) was
session_after _ n was = was

-- the last transaction that a session began
abbrev pub last_of_session : List Record → ℕ → Option ℕ
last_of_session [] n = None
last_of_session (r ∷ R) n = session_after (txn_effect r) n (last_of_session R n)

abbrev pub is_open : List Record → Option ℕ → Bool
is_open R None = false
is_open R (Some t) = is_active R t

-- the session has an active transaction
abbrev pub has_open : List Record → ℕ → Bool
has_open R n = is_open R (last_of_session R n)
