-- What the records of a settling must be, and what they leave.
use Rattle.std.specs.Prelude.{◌≡◌, ℕ, ◌≤◌, true, false, List, ◌∷◌, Some}
use Rattle.seg_words.specs.Types.{Shape, By}
use Rattle.redo_model.specs.Records.{Record, Class, Clean, CleanRecord, ClassRecord}
use Rattle.redo_model.specs.Model.{commit_count, txn_count, row_count, is_active, commit_number, is_forgotten, standing, table_at, view, extents_of, high_mark, low_mark, is_formatted, IsTable, IsRowBlock, pctfree_of, block_of, used_of, image, entry, kept_class, CleanAllowed, ClassAllowed, AreAllowed, IsLawful}
use Rattle.usage_laws.specs.Drafts.{drafted_clean, calls_for_clean, ruled_class, drafted_class, calls_for_class, settled, NeedsNothing}

-- ---- allowed

abbrev pub CleansAreAllowed : Type 0
CleansAreAllowed = (sh : Shape) (R : List Record) (o b : ℕ) → IsLawful sh R → IsRowBlock sh R o b → IsLawful sh (Clean (drafted_clean R b) ∷ R)

-- no other Clean of the block is
abbrev pub CleansAreOne : Type 0
CleansAreOne = (sh : Shape) (R : List Record) (c : CleanRecord) → AreAllowed sh R → CleanAllowed sh R c → c ≡ drafted_clean R c.dba

abbrev pub ClassesAreAllowed : Type 0
ClassesAreAllowed = (sh : Shape) (R : List Record) (o b : ℕ) → IsLawful sh R → IsTable R o → IsRowBlock sh R o b → calls_for_class R o b ≡ true → IsLawful sh (Class (drafted_class sh R o b) ∷ R)

-- no other Class that gives the block its class is
abbrev pub ClassesAreOne : Type 0
ClassesAreOne = (sh : Shape) (R : List Record) (k : ClassRecord) → ClassAllowed sh R k → k.class ≡ ruled_class R k.obj k.dba → k ≡ drafted_class sh R k.obj k.dba

abbrev pub SettledIsLawful : Type 0
SettledIsLawful = (sh : Shape) (R : List Record) (o b : ℕ) → IsLawful sh R → IsTable R o → IsRowBlock sh R o b → IsLawful sh (settled sh R o b)

-- ---- when a settling is called for

-- a slot that calls for a Clean
pub record CallsFor (R : List Record) (b : ℕ) : Type 0 where
  pub slot : ℕ
  pub txn : ℕ
  pub number : ℕ
  pub writer : (image R b slot).writer ≡ By txn
  pub committed : commit_number R txn ≡ Some number
  pub known : is_forgotten R txn ≡ false

pub record CallsMean (R : List Record) (o b : ℕ) : Type 0 where
  pub clean : calls_for_clean R b ≡ true → CallsFor R b
  pub no_clean : calls_for_clean R b ≡ false → CallsFor R b → ⊥
  pub class : calls_for_class R o b ≡ true → kept_class R b ≡ ruled_class R o b → ⊥
  pub no_class : calls_for_class R o b ≡ false → kept_class R b ≡ ruled_class R o b

abbrev pub CallsAreMeant : Type 0
CallsAreMeant = (sh : Shape) (R : List Record) (o b : ℕ) → AreAllowed sh R → CallsMean R o b

-- ---- what it leaves

abbrev pub SettledNeedsNothing : Type 0
SettledNeedsNothing = (sh : Shape) (R : List Record) (o b : ℕ) → IsLawful sh R → IsTable R o → IsRowBlock sh R o b → NeedsNothing (settled sh R o b) o b

-- S is R but for the slots, the list entries and the kept class of block b
pub record SettledOnly (sh : Shape) (R S : List Record) (b : ℕ) : Type 0 where
  pub table : (o s n : ℕ) → table_at S o s n ≡ table_at R o s n
  pub view : (o s t n : ℕ) → view S o s t n ≡ view R o s t n
  pub commits : commit_count S ≡ commit_count R
  pub rows : row_count S ≡ row_count R
  pub begins : txn_count S ≡ txn_count R
  pub active : (t : ℕ) → is_active S t ≡ is_active R t
  pub number : (t : ℕ) → commit_number S t ≡ commit_number R t
  pub forgotten : (t : ℕ) → is_forgotten S t ≡ is_forgotten R t
  pub standing : standing S ≡ standing R
  pub extents : (o : ℕ) → extents_of S o ≡ extents_of R o
  pub low : (o : ℕ) → low_mark S o ≡ low_mark R o
  pub high : (o : ℕ) → high_mark S o ≡ high_mark R o
  pub pctfree : (o : ℕ) → pctfree_of S o ≡ pctfree_of R o
  pub formatted : (d : ℕ) → is_formatted sh S d ≡ is_formatted sh R d
  pub used : (d : ℕ) → used_of S d ≡ used_of R d
  pub blocks : (d : ℕ) → (b ≡ d → ⊥) → block_of S d ≡ block_of R d
  pub kept : (d : ℕ) → (b ≡ d → ⊥) → kept_class S d ≡ kept_class R d

abbrev pub SettledStays : Type 0
SettledStays = (sh : Shape) (R : List Record) (o b : ℕ) → IsLawful sh R → IsTable R o → IsRowBlock sh R o b → SettledOnly sh R (settled sh R o b) b

-- the block that is settled: without a Clean it stays, and after one its list entries name active transactions alone
pub record SettledBlock (sh : Shape) (R : List Record) (o b : ℕ) : Type 0 where
  pub same : calls_for_clean R b ≡ false → block_of (settled sh R o b) b ≡ block_of R b
  pub entries : calls_for_clean R b ≡ true → (i t : ℕ) → 1 ≤ t → (entry (settled sh R o b) b i).txn ≡ t → is_active R t ≡ true
  pub kept : kept_class (settled sh R o b) b ≡ ruled_class R o b
  pub class_same : calls_for_class R o b ≡ false → kept_class (settled sh R o b) b ≡ kept_class R b
  pub class_changed : calls_for_class R o b ≡ true → kept_class (settled sh R o b) b ≡ kept_class R b → ⊥

abbrev pub SettledBlocks : Type 0
SettledBlocks = (sh : Shape) (R : List Record) (o b : ℕ) → IsLawful sh R → IsTable R o → IsRowBlock sh R o b → SettledBlock sh R o b

-- which records a settling adds, each exactly where the list before it calls for it, and as that list gives it
pub record SettledAdds (sh : Shape) (R : List Record) (o b : ℕ) : Type 0 where
  pub none : calls_for_clean R b ≡ false → calls_for_class R o b ≡ false → settled sh R o b ≡ R
  pub clean : calls_for_clean R b ≡ true → calls_for_class R o b ≡ false → settled sh R o b ≡ Clean (drafted_clean R b) ∷ R
  pub class : calls_for_clean R b ≡ false → calls_for_class R o b ≡ true → settled sh R o b ≡ Class (drafted_class sh R o b) ∷ R
  pub both : calls_for_clean R b ≡ true → calls_for_class R o b ≡ true → settled sh R o b ≡ Class (drafted_class sh R o b) ∷ Clean (drafted_clean R b) ∷ R

abbrev pub SettledAddsWhat : Type 0
SettledAddsWhat = (sh : Shape) (R : List Record) (o b : ℕ) → IsLawful sh R → IsRowBlock sh R o b → SettledAdds sh R o b

-- a block that needs nothing stays as it is, so a settled one does
pub record SettlesOnce (sh : Shape) (R : List Record) (o b : ℕ) : Type 0 where
  pub nothing : NeedsNothing R o b → settled sh R o b ≡ R
  pub again : settled sh (settled sh R o b) o b ≡ settled sh R o b

abbrev pub SettledAgain : Type 0
SettledAgain = (sh : Shape) (R : List Record) (o b : ℕ) → IsLawful sh R → IsTable R o → IsRowBlock sh R o b → SettlesOnce sh R o b
