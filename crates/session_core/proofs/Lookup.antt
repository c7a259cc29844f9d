-- What the catalogue of a true store says of a name.
use Rattle.std.proofs.Common.{◌≡◌, ℕ, true, List, Option, Some, None, refl, sym, ◌∙◌, subst, arith}
use Rattle.seg_words.specs.Types.{Shape, is_shape}
use Rattle.redo_model.specs.Records.{Record}
use Rattle.redo_model.specs.Model.{table_named, table_count, IsLawful, AreAllowed}
use Rattle.space_laws.proofs.TablesLaw.{there}
use Rattle.page_set.specs.declared.page.Page.{Page}
use Rattle.page_set.specs.declared.page.Page.TheVariants.{Zero, Catalogue}
use Rattle.page_set.specs.Folded.{page_of}
use Rattle.page_says.specs.Named.{SaysCatalogue}
use Rattle.store_read.proofs.Truth.{catalogue_says}
use Rattle.session_core.specs.declared.naming.Named.{Named}
use Rattle.session_core.specs.Starting.{named_in, Names}

same_named : (m n : Named) → ◌≡◌ {A = Option Named} (Some m) (Some n) → m ≡ n
same_named m n e = cc

-- where there is no table no name is one's
none_named : (sh : Shape) (R : List Record) (name : List ℕ) (found : Option ℕ) → AreAllowed sh R → table_count R ≡ 0 → table_named R name ≡ found → None ≡ found
none_named sh R name None a z e = refl
none_named sh R name (Some o) a z e = let t = there sh R a name o e in let l = t.0 in let m = t.1 in absurd (omega (arith, l, m, z))

-- the page tells
record IsTold (p : Page) (R : List Record) (name : List ℕ) : Type 0 where
  pub named : Named
  pub is : named_in p name ≡ Some named
  pub names : Names R name named

tells : (sh : Shape) (R : List Record) (p : Page) (name : List ℕ) → AreAllowed sh R → SaysCatalogue sh R p → IsTold p R name
tells sh R (Zero d) name a h = record { named = record { obj = None; tables = 0 }; is = refl; names = record { obj = none_named sh R name (table_named R name) a h refl; tables = sym h } }
tells sh R (Catalogue c) name a h = record { named = record { obj = _; tables = _ }; is = refl; names = record { obj = h.named name; tables = h.tables } }
tells sh R p name a h = absurd h

told : (sh : Shape) (R : List Record) (name : List ℕ) → is_shape sh ≡ true → IsLawful sh R → IsTold (page_of sh R 2) R name
told sh R name s h = tells sh R (page_of sh R 2) name h.allowed (catalogue_says sh R (page_of sh R 2) s h refl)

pub named_says : (sh : Shape) (R : List Record) (name : List ℕ) (n : Named) → is_shape sh ≡ true → IsLawful sh R → named_in (page_of sh R 2) name ≡ Some n → Names R name n
named_says sh R name n s h e = let t = told sh R name s h in subst (Names R name) (same_named t.named n (sym t.is ∙ e)) t.names

pub record HasNamed (sh : Shape) (R : List Record) (name : List ℕ) : Type 0 where
  pub named : Named
  pub is : named_in (page_of sh R 2) name ≡ Some named

pub named_given : (sh : Shape) (R : List Record) (name : List ℕ) → is_shape sh ≡ true → IsLawful sh R → HasNamed sh R name
named_given sh R name s h = let t = told sh R name s h in record { named = t.named; is = t.is }
