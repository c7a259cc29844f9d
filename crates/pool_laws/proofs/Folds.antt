-- What batches leave of a data file whose pages are folds.
use Rattle.std.proofs.Common.{◌≡◌, ℕ, suc, ◌<◌, ◌≤◌, inl, inr, Bool, true, false, ◌||◌, nat_eq, cond, List, [], ◌∷◌, length, take, Option, Some, None, refl, sym, ap, subst, arith, ◌∙◌}
use Rattle.std.specs.List.{All, list_any}
use Rattle.std.proofs.lemmas.Bool.{true≢false, eqb-true}
use Rattle.seg_words.specs.Types.{Shape}
use Rattle.seg_words.proofs.Lemmas.{cases_lt}
use Rattle.redo_record.specs.declared.record.Record.{Record}
use Rattle.redo_model.specs.Lists.{prefix, Extends}
use Rattle.redo_laws.proofs.lists.Prefixes.{extends_length, prefix_longer, prefix_size, prefix_twice}
use Rattle.page_store.specs.declared.page.RawPage.{RawPage}
use Rattle.page_store.specs.Types.{after, blocks_of}
use Rattle.page_set.specs.declared.page.Page.{Page}
use Rattle.page_set.specs.declared.page.Page.TheVariants.{Zero}
use Rattle.page_set.specs.Pages.{dba_of, lsn_of}
use Rattle.page_set.specs.Spelled.{meaning_of, spelling_of, HasSpelling}
use Rattle.page_set.specs.Folded.{page_of}
use Rattle.page_set.proofs.ReadAgain.{meaning_again}
use Rattle.buffer_pool.specs.declared.frame.Frame.{Frame}
use Rattle.buffer_pool.specs.Frames.{frame_at, framed, has_page, in_file, page_over, HasPages, IsShown, IsSpelled, IsWritten}
use Rattle.buffer_pool.specs.Batches.{IsBatch, IsDueIn, ReadBack}
use Rattle.buffer_pool.proofs.Batched.{blocks_raw, page_in_raw}
use Rattle.pool_laws.specs.Reached.{IsReached}
use Rattle.pool_laws.specs.Folds.{AreFolded}
use Rattle.pool_laws.proofs.Redoing.{new_reached}
use Rattle.pool_laws.proofs.Written.{steady, written_reached}

means : (d : ℕ) (bytes : List ℕ) (p : Page) → HasSpelling p → dba_of p ≡ d → bytes ≡ spelling_of p → meaning_of d bytes ≡ p
means d bytes p fits at is = ap (meaning_of d) is ∙ ap (λ (n : ℕ). meaning_of n (spelling_of p)) (sym at) ∙ meaning_again p fits

-- a page that is written so reads as it was
spelled_by : (d : ℕ) (bytes : List ℕ) (p : Page) → meaning_of d bytes ≡ p → IsWritten d bytes p → IsSpelled d bytes
spelled_by d bytes p read written = subst (IsWritten d bytes) (sym read) written

pub new_folded : (sh : Shape) (R : List Record) (pages : ℕ → List ℕ) → ((d : ℕ) → has_page sh d ≡ true → pages d ≡ spelling_of (Zero d)) → AreFolded sh R 0 pages
new_folded sh R pages zero = record {
  reached = λ d has. subst (λ (p : Page). IsReached sh R 0 d p) (sym (read d has)) (new_reached sh R d);
  spelled = λ d has. spelled_by d (pages d) (Zero d) (read d has) (record { spells = zero d has; dba = refl; reads = read d has });
}
  where
    read : (d : ℕ) → has_page sh d ≡ true → meaning_of d (pages d) ≡ Zero d
    read d has = means d (pages d) (Zero d) tt refl (zero d has)

longer : (sh : Shape) (Q R : List Record) (m d : ℕ) (p : Page) → Extends Q R → m ≤ length Q → IsReached sh Q m d p → IsReached sh R m d p
longer sh Q R m d p e le reached = record {
  most = let l = extends_length Q R e in omega (arith, l, reached.most);
  older = λ l. reached.older l ∙ ap (λ (X : List Record). page_of sh X d) (sym (prefix_longer Q R m e le));
  newer = λ l. reached.newer l ∙ ap (λ (X : List Record). page_of sh X d) (sym (prefix_longer Q R (lsn_of p) e reached.most));
}

pub folds_stay : (sh : Shape) (Q R : List Record) (m : ℕ) (pages : ℕ → List ℕ) → Extends Q R → m ≤ length Q → AreFolded sh Q m pages → AreFolded sh R m pages
folds_stay sh Q R m pages e le f = record {
  reached = λ d has. longer sh Q R m d (in_file pages d) e le (f.reached d has);
  spelled = f.spelled;
}

-- a page that was written with the first n records at most is a fold of those
fewer : (sh : Shape) (R : List Record) (m n d : ℕ) (p : Page) → m ≤ n → n ≤ length R → lsn_of p ≤ n → IsReached sh R m d p → IsReached sh (prefix R n) m d p
fewer sh R m n d p le few upto reached =
    let long : length (prefix R n) ≡ n = prefix_size R n few in
    record {
      most = omega (arith, long, upto);
      older = λ l. reached.older l ∙ ap (λ (X : List Record). page_of sh X d) (sym (prefix_twice R m n le));
      newer = λ l. reached.newer l ∙ ap (λ (X : List Record). page_of sh X d) (sym (prefix_twice R (lsn_of p) n upto));
    }

pub folds_have_fewer : (sh : Shape) (R : List Record) (m n : ℕ) (pages : ℕ → List ℕ) → m ≤ n → n ≤ length R → ((d : ℕ) → has_page sh d ≡ true → lsn_of (in_file pages d) ≤ n) → AreFolded sh R m pages → AreFolded sh (prefix R n) m pages
folds_have_fewer sh R m n pages le few upto f = record {
  reached = λ d has. fewer sh R m n d (in_file pages d) le few (upto d has) (f.reached d has);
  spelled = f.spelled;
}

-- since the record that its LSN names a page has stayed, so it has as many records of the first ones as one likes
back_to : (sh : Shape) (R : List Record) (k m d : ℕ) (p : Page) → k ≤ m → IsReached sh R m d p → IsReached sh R k d p
back_to sh R k m d p le reached = record {
  most = reached.most;
  older = λ l. since k le l (omega (arith, l, le));
  newer = λ l. elim (cases_lt m (lsn_of p)) [
    | inl lt ↦ reached.newer lt
    | inr ge ↦ since (lsn_of p) ge (omega arith) ge
  ];
}
  where
    since : (n : ℕ) → n ≤ m → lsn_of p ≤ n → lsn_of p ≤ m → p ≡ page_of sh (prefix R n) d
    since n upto few older =
        let is : p ≡ page_of sh (prefix R m) d = reached.older older in
        is ∙ steady sh (prefix R m) d n (subst (λ (q : Page). lsn_of q ≤ n) is few) ∙ ap (λ (X : List Record). page_of sh X d) (prefix_twice R n m upto)

pub folds_reach_back : (sh : Shape) (R : List Record) (k m : ℕ) (pages : ℕ → List ℕ) → k ≤ m → AreFolded sh R m pages → AreFolded sh R k pages
folds_reach_back sh R k m pages le f = record { reached = λ d has. back_to sh R k m d (in_file pages d) le (f.reached d has); spelled = f.spelled }

any_of : (P : ℕ → Type 0) (ns : List ℕ) (d : ℕ) → All P ns → list_any (λ b. nat_eq b d) ns ≡ true → P d
any_of P [] d all y = absurd (true≢false (sym y))
any_of P (n ∷ ns) d all y = decide (nat_eq n d) refl (any_of P ns d (λ k i less. all (suc k) i (omega arith))) y
  where
    decide : (t : Bool) → nat_eq n d ≡ t → (list_any (λ b. nat_eq b d) ns ≡ true → P d) → (t || list_any (λ b. nat_eq b d) ns) ≡ true → P d
    decide true e rest h = subst P (eqb-true n d e) (all 0 n (omega arith))
    decide false e rest h = rest h

due_shows : (upto d : ℕ) (o : Option Frame) (bytes : List ℕ) (p : Page) → IsDueIn upto o → IsShown d o bytes p → (page_over o (Zero d) ≡ p) × (lsn_of p ≤ upto)
due_shows upto d None bytes p due shown = absurd due
due_shows upto d (Some f) bytes p due shown = (shown.0, subst (λ (q : Page). lsn_of q ≤ upto) shown.0 due.1)

module _ (sh : Shape) (Q R : List Record) (m most upto : ℕ) (pages : ℕ → List ℕ) (held : List (ℕ × Frame)) (batch : List RawPage) (e : Extends Q R) (le : m ≤ length Q) (few : upto ≤ length Q)
    (shows : HasPages sh pages R held) (back : ReadBack sh (page_of sh R)) (is : IsBatch most upto held batch) (due : All (λ d. IsDueIn upto (frame_at held d)) (blocks_of batch)) (f : AreFolded sh Q m pages) where
  due_too : All (λ d. IsDueIn upto (frame_at held d)) (take most is.all)
  due_too = subst (All (λ d. IsDueIn upto (frame_at held d))) (ap blocks_of is.pages ∙ blocks_raw held (take most is.all)) due

  new_bytes : (d : ℕ) → after batch pages d ≡ cond (list_any (λ b. nat_eq b d) (take most is.all)) (spelling_of (framed held d)) (pages d)
  new_bytes d = ap (λ (ps : List RawPage). after ps pages d) is.pages ∙ page_in_raw held (take most is.all) d (pages d)

  written : (d : ℕ) → has_page sh d ≡ true → list_any (λ b. nat_eq b d) (take most is.all) ≡ true → IsReached sh Q m d (meaning_of d (spelling_of (framed held d))) × IsSpelled d (spelling_of (framed held d))
  written d has y =
      let tells = due_shows upto d (frame_at held d) (pages d) (page_of sh R d) (any_of (λ d. IsDueIn upto (frame_at held d)) (take most is.all) d due_too y) (shows.at d has) in
      let spells : spelling_of (framed held d) ≡ spelling_of (page_of sh R d) = ap spelling_of tells.0 in
      let read : meaning_of d (spelling_of (framed held d)) ≡ page_of sh R d = means d (spelling_of (framed held d)) (page_of sh R d) (back.spelled d has) (back.dba d has) spells in (
        subst (λ (q : Page). IsReached sh Q m d q) (sym read) (written_reached sh Q R m d e le (omega (arith, tells.1, few))),
        spelled_by d (spelling_of (framed held d)) (page_of sh R d) read (record { spells = spells; dba = back.dba d has; reads = read }),
      )

  each : (d : ℕ) → has_page sh d ≡ true → IsReached sh Q m d (meaning_of d (after batch pages d)) × IsSpelled d (after batch pages d)
  each d has = subst (λ (bytes : List ℕ). IsReached sh Q m d (meaning_of d bytes) × IsSpelled d bytes) (sym (new_bytes d)) (decide (list_any (λ b. nat_eq b d) (take most is.all)) refl)
    where
      decide : (t : Bool) → list_any (λ b. nat_eq b d) (take most is.all) ≡ t
          → IsReached sh Q m d (meaning_of d (cond t (spelling_of (framed held d)) (pages d))) × IsSpelled d (cond t (spelling_of (framed held d)) (pages d))
      decide true y = written d has y
      decide false n = (f.reached d has, f.spelled d has)

  pub batch_folded : AreFolded sh Q m (after batch pages)
  batch_folded = record { reached = λ d has. (each d has).0; spelled = λ d has. (each d has).1 }
