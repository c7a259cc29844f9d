-- The row blocks that a session is to settle, by number, with their tables. This engine's own.
use Rattle.std.specs.Prelude.{◌≡◌, ◌⊎◌, ℕ, ◌≤◌, leb, Bool, true, false, cond, ◌||◌, List, [], ◌∷◌, Option, Some, None, is_some, Result, Ok, Err, OnOk, IfOk, IfErr}
use Rattle.std.specs.BTreeMap.{insert_entry, is_at}
use Rattle.std.specs.Map.{lookup}
use Rattle.std.specs.Ordering.{nat_cmp}
use Rattle.seg_words.specs.Types.{Class as BlockClass, Shape}
use Rattle.disk_model.specs.Crash.{Meaning}
use Rattle.redo_model.specs.Records.{Record}
use Rattle.redo_model.specs.Model.{IsTable, IsRowBlock}
use Rattle.usage_laws.specs.Types.{calls_for_clean, calls_for_class, settled}
use Rattle.session_model.specs.Done.{IsTidied}
use Rattle.store_core.specs.Store.{Held, IsTrue}
use Rattle.store_core.specs.Survives.{Survives}
use Rattle.store_core.specs.Causes.{IsSoundFault}
use Rattle.store_core.specs.declared.fault.StoreFault.{StoreFault}
use Rattle.space_usage.specs.declared.fault.FixFault.{FixFault}
use Rattle.space_usage.specs.declared.fault.FixFault.TheVariants as fixes
use Rattle.session_core.specs.declared.owed.OwedBlock.{OwedBlock}

-- ---- the list

abbrev pub first_owed : List (ℕ × ℕ) → Option OwedBlock
first_owed [] = None
first_owed (e ∷ es) = Some (record { dba = e.0; obj = e.1 })

abbrev pub rest_owed : List (ℕ × ℕ) → List (ℕ × ℕ)
rest_owed [] = []
rest_owed (e ∷ es) = es

abbrev pub is_none_owed : List (ℕ × ℕ) → Bool
is_none_owed [] = true
is_none_owed (e ∷ es) = false

-- the table with which a block is in the list
abbrev pub table_in : List (ℕ × ℕ) → ℕ → Option ℕ
table_in es b = lookup (is_at (nat_cmp b)) es

abbrev pub is_in : List (ℕ × ℕ) → ℕ → Bool
is_in es b = is_some (table_in es b)

-- the first list with each block of the second
abbrev pub with_all : List (ℕ × ℕ) → List (ℕ × ℕ) → List (ℕ × ℕ)
with_all es [] = es
with_all es (x ∷ xs) = with_all (insert_entry nat_cmp es x.0 x.1) xs

-- each block that is in one of the first two lists is in one of the others
abbrev pub AreKept : List (ℕ × ℕ) → List (ℕ × ℕ) → List (ℕ × ℕ) → List (ℕ × ℕ) → Type 0
AreKept es fs gs hs = (b : ℕ) → is_in es b || is_in fs b ≡ true → is_in gs b || is_in hs b ≡ true

-- ---- a settling

-- a slot of the block names a transaction that committed and isn't forgotten, or its kept class isn't its own
abbrev pub calls_for_any : List Record → ℕ → ℕ → Bool
calls_for_any R o b = calls_for_clean R b || calls_for_class R o b

-- Of a true store with the records R: these stand afterwards, and those that were added settle blocks and are of nobody's
-- statement. What survived a crash goes on surviving it.
pub record HasTidied {D : Type 0} (meaning : Meaning D) (R : List Record) (old new : Held D) : Type 0 where
  pub records : List Record
  pub stands : IsTrue meaning records new
  pub tidied : IsTidied R records
  pub stable : old.log.stable ≤ new.log.stable
  pub survives : (since : ℕ) (needed : ℕ → ℕ) → Survives meaning since needed R old → Survives meaning since needed records new
  pub time : meaning.clock old.disk ≤ meaning.clock new.disk

-- At Ok block b of table o is settled, and the answer says whether it called for anything. The only faults are those of the disk
-- and want of memory.
pub record HasSettled {D : Type 0} (meaning : Meaning D) (R : List Record) (o b : ℕ) (old new : Held D) (result : Result Bool StoreFault) : Type 0 where
  pub tidies : HasTidied meaning R old new
  pub settles : OnOk result (tidies.records ≡ settled old.shape R o b)
  pub needed : IfOk result (λ y. y ≡ calls_for_any R o b)
  pub sound : IfErr result IsSoundFault

-- ---- whether a block is there

-- a formatted block of its table under the high mark: one that isn't was released
pub record IsThere (sh : Shape) (R : List Record) (o b : ℕ) : Type 0 where
  pub table : IsTable R o
  pub here : IsRowBlock sh R o b

-- there are so many tables, numbered from 1
abbrev pub is_numbered : ℕ → ℕ → Bool
is_numbered n o = cond (leb 1 o) (leb o n) false

-- a true store with the records R still has them, and what survived a crash goes on surviving it
pub record StaysTrue {D : Type 0} (meaning : Meaning D) (R : List Record) (old new : Held D) : Type 0 where
  pub stands : IsTrue meaning R new
  pub stable : old.log.stable ≤ new.log.stable
  pub survives : (since : ℕ) (needed : ℕ → ℕ) → Survives meaning since needed R old → Survives meaning since needed R new
  pub time : meaning.clock old.disk ≤ meaning.clock new.disk

-- what the setting of a class by the value of none says of the block: it is there exactly where the value is what is wrong
abbrev pub told_block : Result BlockClass FixFault → Result Bool StoreFault
told_block (Ok c) = Ok true
told_block (Err (fixes.BadValue v)) = Ok true
told_block (Err (fixes.NotDataBlock d)) = Ok false
told_block (Err (fixes.Store f)) = Err f

abbrev pub Tells : Type 0 → Bool → Type 0
Tells P true = P
Tells P false = P → ⊥

-- the answer tells whether this holds; nothing is added
pub record HasTold {D : Type 0} (meaning : Meaning D) (R : List Record) (P : Type 0) (old new : Held D) (result : Result Bool StoreFault) : Type 0 where
  pub stays : StaysTrue meaning R old new
  pub told : IfOk result (Tells P)
  pub sound : IfErr result IsSoundFault

-- ---- the first that calls for something

-- a block that is there calls for something
pub record NeedsSettling (sh : Shape) (R : List Record) (o b : ℕ) : Type 0 where
  pub there : IsThere sh R o b
  pub calls : calls_for_any R o b ≡ true

-- it was released, or calls for nothing
abbrev pub NeedsNothing : Shape → List Record → ℕ → ℕ → Type 0
NeedsNothing sh R o b = (IsThere sh R o b → ⊥) ⊎ (calls_for_any R o b ≡ false)

-- what became of a block
abbrev pub SettlesIt : Shape → List Record → List Record → ℕ → ℕ → Bool → Type 0
SettlesIt sh R S o b true = NeedsSettling sh R o b × (S ≡ settled sh R o b)
SettlesIt sh R S o b false = NeedsNothing sh R o b × (S ≡ R)

pub record HasSettledIt {D : Type 0} (meaning : Meaning D) (R : List Record) (o b : ℕ) (old new : Held D) (result : Result Bool StoreFault) : Type 0 where
  pub tidies : HasTidied meaning R old new
  pub settles : IfOk result (SettlesIt old.shape R tidies.records o b)
  pub sound : IfErr result IsSoundFault

-- these are left, and each before them was released or calls for nothing
pub data AreDropped (sh : Shape) (R : List Record) : List (ℕ × ℕ) → List (ℕ × ℕ) → Type 0 where
  dropped_none : (es : List (ℕ × ℕ)) → AreDropped sh R es es
  dropped_one : (e : ℕ × ℕ) (es left : List (ℕ × ℕ)) → NeedsNothing sh R e.1 e.0 → AreDropped sh R es left → AreDropped sh R (e ∷ es) left

-- the first of those that are left is settled, where there is one, and stays owed
abbrev pub SettlesFirst : Shape → List Record → List Record → List (ℕ × ℕ) → Bool → Type 0
SettlesFirst sh R S left false = (left ≡ []) × (S ≡ R)
SettlesFirst sh R S [] true = ⊥
SettlesFirst sh R S (e ∷ es) true = NeedsSettling sh R e.1 e.0 × (S ≡ settled sh R e.1 e.0)

pub record HasSettledFirst {D : Type 0} (meaning : Meaning D) (R : List Record) (owed left : List (ℕ × ℕ)) (old new : Held D) (result : Result Bool StoreFault) : Type 0 where
  pub tidies : HasTidied meaning R old new
  pub dropped : AreDropped old.shape R owed left
  pub first : IfOk result (SettlesFirst old.shape R tidies.records left)
  pub sound : IfErr result IsSoundFault
