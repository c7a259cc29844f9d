-- What reading the page of a block tells of the block's bytes.
use Rattle.std.proofs.Common.{◌≡◌, inl, inr, ℕ, true, List, [], ◌∷◌, length, Ok, Err, refl, sym, ap, subst, arith, ◌∙◌}
use Rattle.std.proofs.lemmas.Bool.{eq-eqb}
use Rattle.seg_words.specs.Types.{Shape, BLOCK_SIZE}
use Rattle.page_bytes.specs.Types.{first_wrong}
use Rattle.page_bytes.specs.declared.fault.PageFault.{PageFault as DecodeFault}
use Rattle.page_bytes.specs.declared.fault.PageFault.TheVariants as decode
use Rattle.page_store.specs.Types.{Answers, IsLook, block}
use Rattle.page_store.specs.declared.fault.PageFault.{PageFault}
use Rattle.page_store.specs.declared.fault.PageFault.TheVariants.{DeviceFault, BadPage, NoMemory}
use Rattle.page_set.specs.declared.page.Page.{Page}
use Rattle.page_set.specs.Pages.{dba_of}
use Rattle.page_set.specs.Spelled.{meaning_of, spelling_of, DecodesAt, IsWrongAt}
use Rattle.buffer_pool.specs.Frames.{has_page, in_file, IsSpelled}
use Rattle.buffer_pool.specs.Reading.{IsReading, IsSpelledIn}

alike : (xs : List ℕ) → first_wrong xs xs ≡ length xs
alike [] = refl
alike (x ∷ xs) = rw (eq-eqb x x refl) (omega (arith, alike xs))

-- bytes that are no spelling
pub unspelled : (d : ℕ) (bytes : List ℕ) (at : ℕ) → length bytes ≡ BLOCK_SIZE → IsWrongAt d bytes at → IsSpelled d bytes → ⊥
unspelled d bytes at long wrong s = elim wrong.1 [
  | inl first ↦ absurd (omega (arith, wrong.0, first ∙ ap (first_wrong bytes) (sym s.spells) ∙ alike bytes, long))
  | inr other ↦ other.1.0 s.dba
]

pub spelled : (d : ℕ) (bytes : List ℕ) (p : Page) → p ≡ meaning_of d bytes → bytes ≡ spelling_of p → dba_of p ≡ d → IsSpelled d bytes
spelled d bytes p is spells dba = record { spells = spells ∙ ap spelling_of is; dba = sym (ap dba_of is) ∙ dba; reads = refl }

module _ (sh : Shape) (d : ℕ) (has : has_page sh d ≡ true) where
  -- in the file of a store
  pub store_fault : (Spelled : Type 0) (P : Page → Type 0) (Q : Unit {0} → Type 0) (e : PageFault) → Answers (Err e) Q → IsReading sh d Spelled P (Err e)
  store_fault Spelled P Q DeviceFault h = tt
  store_fault Spelled P Q (BadPage b) h = absurd h
  store_fault Spelled P Q NoMemory h = absurd h

  pub store_page : (pages : ℕ → List ℕ) (bytes : List ℕ) (p : Page) → bytes ≡ pages d → DecodesAt d bytes (Ok p) → IsReading sh d (IsSpelled d (pages d)) (λ q. q ≡ in_file pages d) (Ok p)
  store_page pages bytes p is h =
      (has, subst (IsSpelled d) is (spelled d bytes p h.0 h.1.0 h.1.1), h.0 ∙ ap (meaning_of d) is)

  pub store_wrong : (pages : ℕ → List ℕ) (P : Page → Type 0) (bytes : List ℕ) (at : ℕ) → bytes ≡ pages d → length bytes ≡ BLOCK_SIZE → IsWrongAt d bytes at → IsReading sh d (IsSpelled d (pages d)) P (Err (BadPage d))
  store_wrong pages P bytes at is long wrong = (refl, λ yes s. unspelled d bytes at long wrong (subst (IsSpelled d) (sym is) s))

  -- in any file
  pub file_fault : (file page : List ℕ) (P : Page → Type 0) (e : PageFault) → IsLook file d page (Err e) → IsReading sh d (IsSpelledIn d file) P (Err e)
  file_fault file page P DeviceFault h = tt
  file_fault file page P (BadPage b) h = (h.1, λ yes s. absurd (omega (arith, h.0, s.0)))
  file_fault file page P NoMemory h = absurd h

  pub file_page : (file bytes : List ℕ) (p : Page) → IsLook file d bytes (Ok tt) → DecodesAt d bytes (Ok p) → IsReading sh d (IsSpelledIn d file) (λ q. q ≡ meaning_of d (block d file)) (Ok p)
  file_page file bytes p look h =
      (has, (look.0, subst (IsSpelled d) look.1 (spelled d bytes p h.0 h.1.0 h.1.1)), h.0 ∙ ap (meaning_of d) look.1)

  pub file_wrong : (file bytes : List ℕ) (P : Page → Type 0) (at : ℕ) → IsLook file d bytes (Ok tt) → length bytes ≡ BLOCK_SIZE → IsWrongAt d bytes at → IsReading sh d (IsSpelledIn d file) P (Err (BadPage d))
  file_wrong file bytes P at look long wrong = (refl, λ yes s. unspelled d bytes at long wrong (subst (IsSpelled d) (sym look.1) s.1))

-- the fault of a decoding that is no want of memory
pub wrong_bytes : (d : ℕ) (bytes : List ℕ) (e : DecodeFault) (at : ℕ) → e ≡ decode.BadPage at → DecodesAt d bytes (Err e) → IsWrongAt d bytes at
wrong_bytes d bytes e at is h = subst (λ (x : DecodeFault). DecodesAt d bytes (Err x)) is h
