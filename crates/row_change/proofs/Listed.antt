-- Whom the list entries of a block name, and what a block lacks for a transaction.
use Rattle.std.proofs.Common.{◌≡◌, ℕ, zero, suc, ◌+◌, ◌<◌, Bool, true, cond, is_none, List, [], ◌∷◌, ◌++◌, length, take, map, get_or, Option, Some, None, refl, sym, ◌∙◌, ap, ap₂, arith}
use Rattle.std.specs.Prelude.{Result, Ok, Err, IfOk}
use Rattle.seg_words.specs.Types.{Shape, Block, ListEntry, new_entry, entry_for, is_shape}
use Rattle.redo_model.specs.Records.{Record}
use Rattle.redo_model.specs.Model.{ended_in, block_of, IsRowBlock, IsLawful}
use Rattle.row_block.specs.Types.{RowPage}
use Rattle.txn_block.specs.Types.{TxnTable}
use Rattle.version_laws.specs.Types.{HoldsTable, ended_by}
use Rattle.version_laws.proofs.TableLaw.{tables_tell}
use Rattle.store_laws.specs.Kinds.{HasRowPage}
use Rattle.store_laws.proofs.KindsLaw.{rows_stand}
use Rattle.page_set.specs.declared.page.Page.{Page}
use Rattle.page_set.specs.declared.page.Page.TheVariants.{Rows}
use Rattle.page_set.specs.Folded.{page_of}
use Rattle.change_laws.specs.Types.{entry_by, first_lacking, txns_of}
use Rattle.row_change.specs.Acting.{txn_of}
use Rattle.row_change.specs.Lacking.{lack_by, lack_in, lack_of, names_at}
use Rattle.row_change.proofs.Given.{entry_of_txn}

-- names, one after the other

abbrev named : List ListEntry → List ℕ
named es = map (λ (e : ListEntry). e.txn) es

name_more : (es : List ListEntry) (i : ℕ) → i < length es → named (take (suc i) es) ≡ named (take i es) ++ (get_or es i new_entry).txn ∷ []
name_more [] i l = absurd (omega (arith, l))
name_more (e ∷ es) zero l = refl
name_more (e ∷ es) (suc i) l = ap (λ (ns : List ℕ). e.txn ∷ ns) (name_more es i (omega (arith, l)))

all_taken : (es : List ListEntry) (n : ℕ) → n ≡ length es → take n es ≡ es
all_taken [] zero e = refl
all_taken [] (suc n) e = absurd (omega (arith, e))
all_taken (x ∷ es) zero e = absurd (omega (arith, e))
all_taken (x ∷ es) (suc n) e = ap (λ (ys : List ListEntry). x ∷ ys) (all_taken es n (omega (arith, e)))

pub name_next : (es : List ListEntry) (i end name : ℕ) (old new : List ℕ) → i < end → end ≡ length es → old ≡ map (λ (e : ListEntry). e.txn) (take i es) → new ≡ old ++ name ∷ [] → name ≡ (get_or es i new_entry).txn → new ≡ map (λ (e : ListEntry). e.txn) (take (i + 1) es)
name_next es i end name old new l e o n f =
    let next : suc i ≡ i + 1 = omega arith in
    n ∙ ap₂ (λ (xs : List ℕ) x. xs ++ x ∷ []) o f ∙ sym (name_more es i (omega (arith, l, e))) ∙ ap (λ m. named (take m es)) next

pub named_all : (es : List ListEntry) (i : ℕ) (names : List ℕ) → i ≡ length es → names ≡ map (λ (e : ListEntry). e.txn) (take i es) → names ≡ map (λ (e : ListEntry). e.txn) es
named_all es i names e n = n ∙ ap named (all_taken es i e)

-- by the page

abbrev some_lack : Option (List ℕ) → Option (Option (List ℕ))
some_lack x = Some x

pub lack_same : (q e : TxnTable) (t : ℕ) (page : Page) (rows : RowPage) (x : Option (List ℕ)) → page ≡ Rows rows → e ≡ q → x ≡ lack_by (entry_for (ended_by e) rows.block t) (map (λ (y : ListEntry). y.txn) rows.block.entries) → Some x ≡ lack_in q t page
lack_same q e t page rows x p s f =
    ap some_lack f
    ∙ ap (λ (y : TxnTable). some_lack (lack_by (entry_for (ended_by y) rows.block t) (named rows.block.entries))) s
    ∙ ap (λ (y : Page). lack_in q t y) (sym p)

-- by the list

pub lack_given : (sh : Shape) (R : List Record) (q : TxnTable) (own : Option ℕ) (o b t : ℕ) → is_shape sh ≡ true → IsLawful sh R → HoldsTable R q → IsRowBlock sh R o b → t ≡ txn_of R own → lack_in q t (page_of sh R b) ≡ Some (lack_of R own b)
lack_given sh R q own o b t s h k x e =
    let p : HasRowPage sh R b = rows_stand sh R o b s h x in
    let f : ended_by q ≡ ended_in R = (tables_tell sh R q h.allowed k).ended in
    ap (λ (y : Page). lack_in q t y) p.page
    ∙ ap₂ (λ (g : ℕ → Bool) (y : Block). some_lack (lack_by (entry_for g y t) (named y.entries))) f p.holds.block
    ∙ ap (λ u. some_lack (lack_by (entry_for (ended_in R) (block_of R b) u) (txns_of R b))) e
    ∙ ap (λ (y : Option ℕ). some_lack (lack_by y (txns_of R b))) (entry_of_txn sh R own b h)

same_lack : (x y : Option (List ℕ)) → ◌≡◌ {A = Option (Option (List ℕ))} (Some x) (Some y) → x ≡ y
same_lack x y e = cc

pub lack_is : (sh : Shape) (R : List Record) (q : TxnTable) (own : Option ℕ) (o b t : ℕ) (x : Option (List ℕ)) → is_shape sh ≡ true → IsLawful sh R → HoldsTable R q → IsRowBlock sh R o b → t ≡ txn_of R own → lack_in q t (page_of sh R b) ≡ Some x → x ≡ lack_of R own b
lack_is sh R q own o b t x s h k i e f = same_lack x (lack_of R own b) (sym f ∙ lack_given sh R q own o b t s h k i e)

-- of several blocks

by_entry : (R : List Record) (own : Option ℕ) (b : ℕ) (bs : List ℕ) (entry : Option ℕ) → entry_by R own b ≡ entry → names_at R (first_lacking R own (b ∷ bs)) ≡ names_at R (cond (is_none entry) (Some b) (first_lacking R own bs))
by_entry R own b bs entry e = ap (λ (x : Option ℕ). names_at R (cond (is_none x) (Some b) (first_lacking R own bs))) e

lack_then : (R : List Record) (own : Option ℕ) (b : ℕ) (bs : List ℕ) (entry : Option ℕ) (ns : List ℕ) → entry_by R own b ≡ entry → lack_by entry (txns_of R b) ≡ Some ns → Some ns ≡ names_at R (first_lacking R own (b ∷ bs))
lack_then R own b bs None ns e f = sym f ∙ sym (by_entry R own b bs None e)
lack_then R own b bs (Some i) ns e f = absurd (let z : ◌≡◌ {A = Option (List ℕ)} None (Some ns) = f in cc)

has_then : (R : List Record) (own : Option ℕ) (b : ℕ) (bs : List ℕ) (entry : Option ℕ) → entry_by R own b ≡ entry → lack_by entry (txns_of R b) ≡ None → names_at R (first_lacking R own (b ∷ bs)) ≡ names_at R (first_lacking R own bs)
has_then R own b bs None e f = absurd (let z : ◌≡◌ {A = Option (List ℕ)} (Some (txns_of R b)) None = f in cc)
has_then R own b bs (Some i) e f = by_entry R own b bs (Some i) e

pub lack_first : (R : List Record) (own : Option ℕ) (b : ℕ) (bs : List ℕ) (ns : List ℕ) → ◌≡◌ {A = Option (List ℕ)} (Some ns) (lack_of R own b) → ◌≡◌ {A = Option (List ℕ)} (Some ns) (names_at R (first_lacking R own (b ∷ bs)))
lack_first R own b bs ns e = lack_then R own b bs (entry_by R own b) ns refl (sym e)

pub lack_next : (R : List Record) (own : Option ℕ) (b : ℕ) (bs : List ℕ) → ◌≡◌ {A = Option (List ℕ)} None (lack_of R own b) → names_at R (first_lacking R own (b ∷ bs)) ≡ names_at R (first_lacking R own bs)
lack_next R own b bs e = has_then R own b bs (entry_by R own b) refl (sym e)

one_by : (R : List Record) (b : ℕ) (entry : Option ℕ) → lack_by entry (txns_of R b) ≡ names_at R (cond (is_none entry) (Some b) None)
one_by R b None = refl
one_by R b (Some i) = refl

pub lack_one : (R : List Record) (own : Option ℕ) (b : ℕ) → lack_of R own b ≡ names_at R (first_lacking R own (b ∷ []))
lack_one R own b = one_by R b (entry_by R own b)

pub lack_alone : {E : Type 0} (R : List Record) (own : Option ℕ) (b : ℕ) (r : Result (Option (List ℕ)) E) → IfOk r (λ x. x ≡ lack_of R own b) → IfOk r (λ x. x ≡ names_at R (first_lacking R own (b ∷ [])))
lack_alone R own b (Ok x) h = h ∙ lack_one R own b
lack_alone R own b (Err e) h = tt

pub lack_last : {E : Type 0} (R : List Record) (own : Option ℕ) (b c : ℕ) (r : Result (Option (List ℕ)) E) → ◌≡◌ {A = Option (List ℕ)} None (lack_of R own b) → IfOk r (λ x. x ≡ lack_of R own c) → IfOk r (λ x. x ≡ names_at R (first_lacking R own (b ∷ c ∷ [])))
lack_last R own b c (Ok x) e h = h ∙ lack_one R own c ∙ sym (lack_next R own b (c ∷ []) e)
lack_last R own b c (Err f) e h = tt

-- the names that were read say whether a block lacks an entry

pub none_lacks : (R : List Record) (l : Option ℕ) → ◌≡◌ {A = Option (List ℕ)} None (names_at R l) → l ≡ None
none_lacks R None e = refl
none_lacks R (Some b) e = (let z : ◌≡◌ {A = Option (List ℕ)} None (Some (txns_of R b)) = e in absurd cc)
