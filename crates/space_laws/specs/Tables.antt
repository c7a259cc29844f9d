-- Tables and their names: a table that is there stays, with its name and its PCTFREE.
use Rattle.std.specs.Prelude.{◌≡◌, ℕ, true, List, Some}
use Rattle.seg_words.specs.Types.{Shape, is_name}
use Rattle.redo_model.specs.Records.{Record}
use Rattle.redo_model.specs.Model.{Extends, IsTable, table_named, pctfree_of, AreAllowed}

-- a name of the table
pub record HasName (R : List Record) (o : ℕ) : Type 0 where
  pub name : List ℕ
  pub named : table_named R name ≡ Some o
  pub well_formed : is_name name ≡ true

pub record NamesOf (R : List Record) : Type 0 where
  pub there : (name : List ℕ) (o : ℕ) → table_named R name ≡ Some o → IsTable R o
  pub one : (m n : List ℕ) (o : ℕ) → table_named R m ≡ Some o → table_named R n ≡ Some o → m ≡ n
  pub each : (o : ℕ) → IsTable R o → HasName R o

abbrev pub TablesAreNamed : Type 0
TablesAreNamed = (sh : Shape) (R : List Record) → AreAllowed sh R → NamesOf R

pub record TableStays (Q R : List Record) (o : ℕ) : Type 0 where
  pub there : IsTable R o
  pub named : (name : List ℕ) → table_named Q name ≡ Some o → table_named R name ≡ Some o
  pub pctfree : pctfree_of R o ≡ pctfree_of Q o

abbrev pub TablesStay : Type 0
TablesStay = (sh : Shape) (Q R : List Record) (o : ℕ) → AreAllowed sh R → Extends Q R → IsTable Q o → TableStays Q R o
