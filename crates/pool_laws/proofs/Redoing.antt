-- Redoing the records behind those that a page has.
use Rattle.std.proofs.Common.{◌≡◌, ℕ, suc, ◌≤◌, ◌<◌, Bool, true, false, ◌&&◌, nat_lt, cond, List, [], ◌∷◌, length, refl, sym, ap, subst, arith, ◌∙◌, inl, inr, le-ltb, lt-ltb}
use Rattle.seg_words.specs.Types.{Shape}
use Rattle.seg_words.proofs.Lemmas.{cases_order}
use Rattle.redo_record.specs.declared.record.Record.{Record}
use Rattle.redo_model.specs.Lists.{prefix}
use Rattle.redo_laws.proofs.lists.Prefixes.{prefix_all, prefix_more, prefix_size}
use Rattle.page_set.specs.declared.page.Page.{Page}
use Rattle.page_set.specs.declared.page.Page.TheVariants.{Zero}
use Rattle.page_set.specs.Pages.{lsn_of}
use Rattle.page_set.specs.Changes.{changed_page}
use Rattle.page_set.specs.Among.{is_among}
use Rattle.page_set.specs.Folded.{touched, page_of}
use Rattle.page_set.proofs.LsnLaw.{lsns_tell}
use Rattle.buffer_pool.specs.Preparing.{redone}
use Rattle.pool_laws.specs.Reached.{IsReached}

and_true : (a b : Bool) (x y : Page) → b ≡ true → cond (a && b) x y ≡ cond a x y
and_true true b x y h = rw h refl
and_true false b x y h = refl

and_false : (a b : Bool) (x y : Page) → b ≡ false → cond (a && b) x y ≡ y
and_false true b x y h = rw h refl
and_false false b x y h = refl

-- the page after some records is redone to the page after one more
redone_next : (sh : Shape) (Q : List Record) (r : Record) (m d : ℕ) → length Q ≡ m → redone sh r (suc m) d (page_of sh Q d) ≡ page_of sh (r ∷ Q) d
redone_next sh Q r m d e =
    ap (λ (n : ℕ). redone sh r (suc n) d (page_of sh Q d)) (sym e)
    ∙ and_true (is_among (touched sh r) d) (nat_lt (lsn_of (page_of sh Q d)) (suc (length Q))) (changed_page r (suc (length Q)) (page_of sh Q d)) (page_of sh Q d)
    (lt-ltb (lsn_of (page_of sh Q d)) (suc (length Q)) (omega (arith, (lsns_tell sh Q d).most)))

-- a page that has the record stays
redone_had : (sh : Shape) (r : Record) (lsn d : ℕ) (p : Page) → lsn ≤ lsn_of p → redone sh r lsn d p ≡ p
redone_had sh r lsn d p le = and_false (is_among (touched sh r) d) (nat_lt (lsn_of p) lsn) (changed_page r lsn p) p (le-ltb (lsn_of p) lsn le)

module _ (sh : Shape) (R : List Record) (r : Record) (m d : ℕ) (p : Page) (less : m < length R) (next : prefix R (suc m) ≡ r ∷ prefix R m) (reached : IsReached sh R m d p) where
  older : lsn_of p ≤ m → IsReached sh R (suc m) d (redone sh r (suc m) d p)
  older le =
      let long : length (prefix R m) ≡ m = prefix_size R m (omega (arith, less)) in
      let is : redone sh r (suc m) d p ≡ page_of sh (r ∷ prefix R m) d = ap (redone sh r (suc m) d) (reached.older le) ∙ redone_next sh (prefix R m) r m d long in
      let least : lsn_of (page_of sh (r ∷ prefix R m) d) ≤ suc (length (prefix R m)) = (lsns_tell sh (r ∷ prefix R m) d).most in
      subst (λ (q : Page). IsReached sh R (suc m) d q) (sym is) (record {
        most = omega (arith, least, long, less);
        older = λ l. ap (λ (Q : List Record). page_of sh Q d) (sym next);
        newer = λ l. absurd (omega (arith, least, long, l));
      })

  newer : m < lsn_of p → IsReached sh R (suc m) d (redone sh r (suc m) d p)
  newer gt = subst (λ (q : Page). IsReached sh R (suc m) d q) (sym (redone_had sh r (suc m) d p (omega (arith, gt)))) (record {
    most = reached.most;
    older = λ l. let same : lsn_of p ≡ suc m = omega (arith, l, gt) in reached.newer gt ∙ ap (λ (n : ℕ). page_of sh (prefix R n) d) same;
    newer = λ l. reached.newer gt;
  })

  pub redo : IsReached sh R (suc m) d (redone sh r (suc m) d p)
  redo = elim (cases_order (lsn_of p) m) [
    | inl same ↦ older (omega (arith, same))
    | inr (inl lt) ↦ older (omega (arith, lt))
    | inr (inr gt) ↦ newer gt
  ]

pub all_reached : (sh : Shape) (R : List Record) (d : ℕ) (p : Page) → IsReached sh R (length R) d p → p ≡ page_of sh R d
all_reached sh R d p reached = reached.older reached.most ∙ ap (λ (Q : List Record). page_of sh Q d) (prefix_all R (length R) (omega arith))

pub reached_stays : (sh : Shape) (R : List Record) (r : Record) (m d : ℕ) (p : Page) → m ≤ length R → IsReached sh R m d p → IsReached sh (r ∷ R) m d p
reached_stays sh R r m d p le reached = record {
  most = omega (arith, reached.most);
  older = λ l. reached.older l ∙ ap (λ (Q : List Record). page_of sh Q d) (sym (prefix_more R r m le));
  newer = λ l. reached.newer l ∙ ap (λ (Q : List Record). page_of sh Q d) (sym (prefix_more R r (lsn_of p) reached.most));
}

no_record : (R : List Record) → prefix R 0 ≡ []
no_record [] = refl
no_record (r ∷ R) = prefix_more R r 0 (omega arith) ∙ no_record R

pub new_reached : (sh : Shape) (R : List Record) (d : ℕ) → IsReached sh R 0 d (Zero d)
new_reached sh R d = record {
  most = omega arith;
  older = λ l. ap (λ (Q : List Record). page_of sh Q d) (sym (no_record R));
  newer = λ l. absurd (omega (arith, l));
}
