-- From what a page says to what the list says.
use Rattle.std.proofs.Common.{◌≡◌, ℕ, zero, suc, ◌+◌, ◌<◌, ◌≤◌, true, false, List, [], ◌∷◌, length, map, Option, Some, None, refl, sym, ◌∙◌, ap, subst, arith, true≢false}
use Rattle.seg_words.proofs.Lemmas.{length-map}
use Rattle.seg_words.specs.Types.{Shape}
use Rattle.redo_model.specs.Records.{Record}
use Rattle.redo_model.specs.Model.{Extent, extents_of, in_extent, index_of}
use Rattle.segment_blocks.specs.Types as blocks
use Rattle.page_set.specs.declared.page.Page.{Page}
use Rattle.page_set.specs.declared.page.Page.TheVariants as pages
use Rattle.page_fit.specs.Headers.{HeaderSays, SaysHeader}
use Rattle.segment_read.specs.Segments.{number_at, has_it}

numbers_at : (es : List Extent) (n : ℕ) → blocks.extent_at (map (λ (e : Extent). e.number) es) n ≡ number_at es n
numbers_at [] zero = refl
numbers_at [] (suc n) = refl
numbers_at (e ∷ es) zero = refl
numbers_at (e ∷ es) (suc n) = numbers_at es n

there_at : (es : List Extent) (n : ℕ) → n < length es → number_at es n ≡ None → ⊥
there_at [] n l h = omega (arith, l)
there_at (e ∷ es) zero l h = (let x : ◌≡◌ {A = Option ℕ} (Some e.number) None = h in cc)
there_at (e ∷ es) (suc n) l h = there_at es n (omega (arith, l)) h

-- the number that the header has at an index is that of the table's extent
pub extent_says : (R : List Record) (o : ℕ) (p : Page) (h : blocks.Header) (index : ℕ) (found : Option ℕ) → p ≡ pages.Header h → found ≡ blocks.extent_at h.extents index → SaysHeader R o p → number_at (extents_of R o) index ≡ found
extent_says R o p h index found is f s =
    let says : HeaderSays R o h = subst (SaysHeader R o) is s in
    sym (f ∙ ap (λ (xs : List ℕ). blocks.extent_at xs index) says.extents ∙ numbers_at (extents_of R o) index)

pub no_extent_says : (R : List Record) (o : ℕ) (p : Page) (h : blocks.Header) (index : ℕ) (found : Option ℕ) → p ≡ pages.Header h → found ≡ blocks.extent_at h.extents index → found ≡ None → SaysHeader R o p → index < length (extents_of R o) → ⊥
no_extent_says R o p h index found is f none s l = there_at (extents_of R o) index l (extent_says R o p h index found is f s ∙ none)

-- in which extent a block stands

index_here : (sh : Shape) (e : Extent) (es : List Extent) (b : ℕ) → in_extent sh e.number b ≡ true → index_of sh (e ∷ es) b ≡ 0
index_here sh e es b h = rw h refl

index_past : (sh : Shape) (e : Extent) (es : List Extent) (b : ℕ) → in_extent sh e.number b ≡ false → index_of sh (e ∷ es) b ≡ suc (index_of sh es b)
index_past sh e es b h = rw h (let z : 1 + index_of sh es b ≡ suc (index_of sh es b) = omega arith in z)

first_at : (sh : Shape) (es : List Extent) (i b : ℕ) → ((k : ℕ) → k < i → has_it sh (number_at es k) b ≡ false) → has_it sh (number_at es i) b ≡ true → index_of sh es b ≡ i
first_at sh [] i b h y = absurd (true≢false (sym y))
first_at sh (e ∷ es) zero b h y = index_here sh e es b y
first_at sh (e ∷ es) (suc i) b h y = index_past sh e es b (h 0 (omega arith)) ∙ ap (λ n. suc n) (first_at sh es i b (λ k l. h (suc k) (omega (arith, l))) y)

none_at : (sh : Shape) (es : List Extent) (b : ℕ) → ((k : ℕ) → k < length es → has_it sh (number_at es k) b ≡ false) → length es ≤ index_of sh es b
none_at sh [] b h = omega arith
none_at sh (e ∷ es) b h =
    let k = none_at sh es b (λ k l. h (suc k) (omega (arith, l))) in
    let e' = index_past sh e es b (h 0 (omega arith)) in
    omega (arith, k, e')

-- no extent before this index has the block
abbrev pub NoneBefore : Shape → List ℕ → ℕ → ℕ → Type 0
NoneBefore sh xs i b = (k : ℕ) → k < i → has_it sh (blocks.extent_at xs k) b ≡ false

told_none : (sh : Shape) (R : List Record) (o : ℕ) (p : Page) (h : blocks.Header) (i b : ℕ) → p ≡ pages.Header h → NoneBefore sh h.extents i b → SaysHeader R o p → (k : ℕ) → k < i → has_it sh (number_at (extents_of R o) k) b ≡ false
told_none sh R o p h i b is none s k l = ap (λ (x : Option ℕ). has_it sh x b) (extent_says R o p h k (blocks.extent_at h.extents k) is refl s) ∙ none k l

pub index_says : (sh : Shape) (R : List Record) (o : ℕ) (p : Page) (h : blocks.Header) (i b : ℕ) → p ≡ pages.Header h → NoneBefore sh h.extents i b → has_it sh (blocks.extent_at h.extents i) b ≡ true → SaysHeader R o p → i ≡ index_of sh (extents_of R o) b
index_says sh R o p h i b is none y s =
    sym (first_at sh (extents_of R o) i b (told_none sh R o p h i b is none s) (ap (λ (x : Option ℕ). has_it sh x b) (extent_says R o p h i (blocks.extent_at h.extents i) is refl s) ∙ y))

pub no_index_says : (sh : Shape) (R : List Record) (o : ℕ) (p : Page) (h : blocks.Header) (i b : ℕ) → p ≡ pages.Header h → i ≡ length h.extents → NoneBefore sh h.extents i b → SaysHeader R o p → index_of sh (extents_of R o) b < length (extents_of R o) → ⊥
no_index_says sh R o p h i b is n none s l =
    let says : HeaderSays R o h = subst (SaysHeader R o) is s in
    let same : i ≡ length (extents_of R o) = n ∙ ap (λ (xs : List ℕ). length xs) says.extents ∙ length-map (extents_of R o) (λ (e : Extent). e.number) in
    let past = none_at sh (extents_of R o) b (λ k m. told_none sh R o p h i b is none s k (omega (arith, m, same))) in
    omega (arith, l, past)
