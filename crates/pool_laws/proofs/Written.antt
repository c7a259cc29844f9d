-- A page that is the fold of all records, written while the log lacks the newer ones.
use Rattle.std.proofs.Common.{◌≡◌, ℕ, suc, ◌≤◌, Bool, true, false, ltb, cond, List, [], ◌∷◌, length, refl, sym, ap, subst, arith, ◌∙◌, inl, inr, ltb-false}
use Rattle.std.proofs.lemmas.Bool.{cases_Bool}
use Rattle.seg_words.specs.Types.{Shape}
use Rattle.redo_record.specs.declared.record.Record.{Record}
use Rattle.redo_model.specs.Lists.{prefix, Extends}
use Rattle.redo_laws.proofs.lists.Prefixes.{prefix_longer}
use Rattle.page_set.specs.declared.page.Page.{Page}
use Rattle.page_set.specs.Pages.{lsn_of}
use Rattle.page_set.specs.Changes.{changed_page}
use Rattle.page_set.specs.Among.{is_among}
use Rattle.page_set.specs.Folded.{touched, page_of}
use Rattle.page_set.proofs.LsnLaw.{lsns_tell}
use Rattle.pool_laws.specs.Reached.{IsReached}
use Rattle.pool_laws.proofs.Plain.{lsn_or_same}

-- since the record that its LSN names a page has stayed
pub steady : (sh : Shape) (R : List Record) (d m : ℕ) → lsn_of (page_of sh R d) ≤ m → page_of sh R d ≡ page_of sh (prefix R m) d
steady sh [] d m le = refl
steady sh (r ∷ R) d m le = elim (cases_Bool (ltb (length R) m)) [
  | inl y ↦ rw y refl
  | inr n ↦ ap_prefix n (elim (cases_Bool (is_among (touched sh r) d)) [
    | inl y ↦ touches y (ltb-false (length R) m n) (steady sh R d m)
    | inr f ↦ stays f ∙ steady sh R d m (subst (λ (p : Page). lsn_of p ≤ m) (stays f) le)
  ])
]
  where
    stays : is_among (touched sh r) d ≡ false → page_of sh (r ∷ R) d ≡ page_of sh R d
    stays f = rw f refl

    changes : is_among (touched sh r) d ≡ true → page_of sh (r ∷ R) d ≡ changed_page r (suc (length R)) (page_of sh R d)
    changes y = rw y refl

    ap_prefix : ltb (length R) m ≡ false → page_of sh (r ∷ R) d ≡ page_of sh (prefix R m) d → page_of sh (r ∷ R) d ≡ page_of sh (prefix (r ∷ R) m) d
    ap_prefix n is = is ∙ sym (ap (λ (b : Bool). page_of sh (cond b (r ∷ R) (prefix R m)) d) n)

    touches : is_among (touched sh r) d ≡ true → m ≤ length R → (lsn_of (page_of sh R d) ≤ m → page_of sh R d ≡ page_of sh (prefix R m) d) → page_of sh (r ∷ R) d ≡ page_of sh (prefix R m) d
    touches y few before = elim (lsn_or_same r (suc (length R)) (page_of sh R d)) [
      | inl own ↦ (
          let here : lsn_of (page_of sh (r ∷ R) d) ≡ suc (length R) = ap lsn_of (changes y) ∙ own in
          absurd (omega (arith, here, le, few)))
      | inr kept ↦ (
          let same : page_of sh (r ∷ R) d ≡ page_of sh R d = changes y ∙ kept in
          same ∙ before (subst (λ (p : Page). lsn_of p ≤ m) same le))
    ]

pub written_reached : (sh : Shape) (Q R : List Record) (m d : ℕ) → Extends Q R → m ≤ length Q → lsn_of (page_of sh R d) ≤ length Q → IsReached sh Q m d (page_of sh R d)
written_reached sh Q R m d e le few = record {
  most = few;
  older = λ l. steady sh R d m l ∙ ap (λ (X : List Record). page_of sh X d) (prefix_longer Q R m e le);
  newer = λ l. sym (lsns_tell sh R d).fold ∙ ap (λ (X : List Record). page_of sh X d) (prefix_longer Q R (lsn_of (page_of sh R d)) e few);
}
