-- The records of a new table.
use Rattle.std.proofs.Common.{◌≡◌, ℕ, suc, ◌+◌, ◌≤◌, true, false, not, List, ◌∷◌, Option, Some, None, refl, sym, ◌∙◌, ap, subst, arith}
use Rattle.std.specs.Prelude.{Ok}
use Rattle.seg_words.proofs.Lemmas.{and_parts}
use Rattle.seg_words.specs.Types.{Shape, MOST_TABLES, first_block, is_extent, is_shape}
use Rattle.disk_model.specs.Crash.{Meaning}
use Rattle.redo_model.specs.Records.{Record, Table, Extend}
use Rattle.redo_model.specs.Model.{table_count, is_taken, is_whole, IsLawful}
use Rattle.redo_laws.proofs.numbers.Bounds.{limits}
use Rattle.mark_laws.specs.Movements.{least_free}
use Rattle.mark_laws.specs.Drafts.{drafted_first}
use Rattle.mark_laws.specs.Moves.{MayMake}
use Rattle.mark_laws.proofs.Numbers.{least_free_is, least_free_none}
use Rattle.mark_laws.proofs.MovesLaw.{tables_are_made}
use Rattle.data_places.specs.Places.{block_or_none}
use Rattle.store_core.specs.Store.{Held, IsTrue}
use Rattle.store_core.specs.Adding.{HasTried}
use Rattle.store_core.specs.Causes.{HasLooked}
use Rattle.store_core.proofs.Lookups.{cause_ok}
use Rattle.mark_move.specs.declared.tables.Drafted.{Drafted}
use Rattle.mark_move.specs.Tables.{DraftsTable, NextTable, NoneFree, with_table_in, with_table_where, with_table}
use Rattle.mark_move.proofs.Drafting.{block_is, whole_has}

-- the least free extent is a whole one of the store
pub free_whole : (sh : Shape) (R : List Record) (x : ℕ) → least_free sh R ≡ Some x → is_extent sh x ≡ true
free_whole sh R x e = (and_parts (is_extent sh x) (not (is_taken R MOST_TABLES x)) (least_free_is sh R x e).free).0

pub free_has : (k sh : Shape) (R : List Record) (x : ℕ) → k ≡ sh → is_shape sh ≡ true → least_free sh R ≡ Some x → block_or_none k x 0 ≡ None → ⊥
free_has k sh R x e s free none =
    let f = (limits sh s).extent_from in
    whole_has sh x 0 (free_whole sh R x free) (omega (arith, f)) (subst (λ (z : Shape). block_or_none z x 0 ≡ None) e none)

first_is : (k sh : Shape) (x d : ℕ) → k ≡ sh → block_or_none k x 0 ≡ Some d → d ≡ first_block sh x
first_is k sh x d e h = (let z = block_is k x 0 d h in let plain : first_block k x + 0 ≡ first_block k x = omega arith in z ∙ plain ∙ ap (λ (s : Shape). first_block s x) e)

-- what is drafted by the pages is what the list drafts
pub drafts_table : (k sh : Shape) (R : List Record) (name copy : List ℕ) (percent x first count o : ℕ) (d : Drafted) → k ≡ sh → block_or_none k x 0 ≡ Some first → count ≡ table_count R → copy ≡ name → o ≡ count + 1
    → d.obj ≡ o → d.table ≡ Table (record { obj = o; header = first + 3; pctfree = percent; name = copy }) → d.first ≡ Extend (record { obj = o; header = first + 3; index = 0; extent = x; l2 = first + 1; l3 = first + 2 })
    → DraftsTable sh R name percent x d
drafts_table k sh R name copy percent x first count o d e h c n next obj table extend =
    let at = first_is k sh x first e h in
    let number : o ≡ suc (table_count R) = omega (arith, next, c) in
    record {
      obj = obj ∙ number;
      table = table
          ∙ ap (λ m. Table (record { obj = m; header = first + 3; pctfree = percent; name = copy })) number
          ∙ ap (λ m. Table (record { obj = suc (table_count R); header = m + 3; pctfree = percent; name = copy })) at
          ∙ ap (λ (bytes : List ℕ). Table (record { obj = suc (table_count R); header = first_block sh x + 3; pctfree = percent; name = bytes })) n;
      first = extend
          ∙ ap (λ m. Extend (record { obj = m; header = first + 3; index = 0; extent = x; l2 = first + 1; l3 = first + 2 })) number
          ∙ ap (λ m. Extend (record { obj = suc (table_count R); header = m + 3; index = 0; extent = x; l2 = m + 1; l3 = m + 2 })) at;
    }

pub too_many : (R : List Record) (name : List ℕ) (percent count : ℕ) → MayMake R name percent → count ≡ table_count R → MOST_TABLES ≤ count → ⊥
too_many R name percent count m c l = (let few = m.few in omega (arith, few, c, l))

-- both records are allowed, one after the other
pub table_lawful : {D : Type 0} (meaning : Meaning D) (a b : Held D) (R : List Record) (name : List ℕ) (percent x : ℕ) (d : Drafted) → b.shape ≡ a.shape → IsTrue meaning R a → MayMake R name percent → least_free a.shape R ≡ Some x → DraftsTable a.shape R name percent x d → IsLawful b.shape (d.first ∷ d.table ∷ R)
table_lawful meaning a b R name percent x d same t m free says =
    let k = (tables_are_made a.shape R t.list.within t.lawful).made name percent x m free in
    subst (λ (sh : Shape). IsLawful sh (d.first ∷ d.table ∷ R)) (sym same)
    (subst (λ (r : Record). IsLawful a.shape (r ∷ d.table ∷ R)) (sym says.first)
    (subst (λ (r : Record). IsLawful a.shape (Extend (drafted_first a.shape R x) ∷ r ∷ R)) (sym says.table) k.lawful))

pub table_calls : (sh : Shape) (R : List Record) (name : List ℕ) (percent x : ℕ) (d : Drafted) → DraftsTable sh R name percent x d → is_whole (d.table ∷ R) ≡ false
table_calls sh R name percent x d says = ap (λ (r : Record). is_whole (r ∷ R)) says.table

pub table_after : (sh : Shape) (R : List Record) (name : List ℕ) (percent x : ℕ) (d : Drafted) → DraftsTable sh R name percent x d → d.first ∷ d.table ∷ R ≡ with_table_in sh R name percent x
table_after sh R name percent x d says = ap (λ (r : Record). r ∷ d.table ∷ R) says.first ∙ ap (λ (r : Record). Extend (drafted_first sh R x) ∷ r ∷ R) says.table

-- pages told that there is nothing to add
pub tried_same : {D A T : Type 0} (meaning : Meaning D) (a b : Held D) (x : A) (y : T) → HasLooked {T = A} meaning a b (Ok x) → HasTried {T = T} meaning a b (Ok y)
tried_same meaning a b x y p = record { refused = λ R t. tt; survives_refused = λ since needed R t s. tt; stable = p.stable; loan = p.loan; cause = cause_ok meaning a b x y p.cause }

pub in_free : (sh k : Shape) (R : List Record) (name : List ℕ) (percent x : ℕ) → k ≡ sh → Some x ≡ least_free sh R → with_table_in k R name percent x ≡ with_table sh R name percent
in_free sh k R name percent x e f = ap (λ (z : Shape). with_table_in z R name percent x) e ∙ ap (λ (o : Option ℕ). with_table_where sh R name percent o) f

pub free_at : (sh k : Shape) (R : List Record) (x : ℕ) → k ≡ sh → Some x ≡ least_free sh R → least_free k R ≡ Some x
free_at sh k R x e f = ap (λ (z : Shape). least_free z R) e ∙ sym f

pub next_table : (sh : Shape) (R : List Record) (o x : ℕ) → Some x ≡ least_free sh R → o ≡ suc (table_count R) → NextTable sh R o
next_table sh R o x f e = record { next = e; extent = x; least = least_free_is sh R x (sym f) }

pub none_free : (sh : Shape) (R : List Record) → is_shape sh ≡ true → None ≡ least_free sh R → NoneFree sh R 0
none_free sh R s f = record { none = least_free_none sh R s (sym f); no_row = refl }
