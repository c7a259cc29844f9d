-- What each page of a lawful list keeps beside its block's number and its LSN, by the page's kind. What row blocks and the
-- parts of undo blocks are is told by the model.
use Rattle.std.proofs.Common.{◌≡◌, ℕ, zero, suc, ◌<◌, ◌≤◌, ◌^◌, List, [], ◌∷◌, ◌++◌, length, take, get_or, set, Option}
use Rattle.seg_words.specs.Types.{AllByRecursion, TXN_ENTRIES, MOST_TABLES, MOST_EXTENTS, EXTENTS_OF_L2, MOST_PCTFREE, MOST_EXTENT_BLOCKS}
use Rattle.bitmap_block.specs.Codes.{HasCodes}
use Rattle.txn_block.specs.declared.entry.TableEntry.{TableEntry}
use Rattle.txn_block.specs.EntryBytes.{IsEntry}
use Rattle.txn_block.specs.Pages.{BlockFits}
use Rattle.segment_blocks.specs.declared.entry.CatalogueEntry.{CatalogueEntry}
use Rattle.segment_blocks.specs.Types.{IsCatalogueEntry}
use Rattle.segment_blocks.specs.Spaces.{HasBits}
use Rattle.page_set.specs.declared.page.Page.{Page}
use Rattle.page_set.specs.declared.page.Page.TheVariants as pages

pub record TxnsHave (control last_txn last_row : ℕ) (current : Option ℕ) (entries : List TableEntry) : Type 0 where
  pub control_fits : control < 2 ^ 64
  pub txn_fits : last_txn < 2 ^ 64
  pub row_fits : last_row < 2 ^ 64
  pub undo_fits : BlockFits current
  pub count : length entries ≡ TXN_ENTRIES
  pub each : AllByRecursion IsEntry entries

pub record CatalogueHas (entries : List CatalogueEntry) : Type 0 where
  pub count : length entries ≡ MOST_TABLES
  pub each : AllByRecursion IsCatalogueEntry entries

pub record SpaceHas (lowerings : ℕ) (bits : List ℕ) : Type 0 where
  pub fits : lowerings < 2 ^ 64
  pub has : HasBits bits
  pub bytes : AllByRecursion (λ b. b < 256) bits

pub record HeaderHas (obj pctfree low high : ℕ) (extents : List ℕ) : Type 0 where
  pub least : 1 ≤ obj
  pub most : obj ≤ MOST_TABLES
  pub pctfree_fits : pctfree ≤ MOST_PCTFREE
  pub low_fits : low < 2 ^ 32
  pub high_fits : high < 2 ^ 32
  pub count : length extents ≤ MOST_EXTENTS
  pub each : AllByRecursion (λ x. x < 2 ^ 32) extents

abbrev pub Fields : Page → Type 0
Fields (pages.Zero x) = Unit {0}
Fields (pages.Checkpoint x) = ⊥
Fields (pages.Txns t) = TxnsHave t.control t.last_txn t.last_row t.current_undo t.entries
Fields (pages.Catalogue c) = CatalogueHas c.entries
Fields (pages.Space s) = SpaceHas s.lowerings s.bits
Fields (pages.Undo u) = u.sequence < 2 ^ 64
Fields (pages.First m) = (m.incarnation < 2 ^ 64) × HasCodes MOST_EXTENT_BLOCKS m.codes
Fields (pages.Second m) = HasCodes EXTENTS_OF_L2 m.codes
Fields (pages.Third m) = HasCodes 3 m.codes
Fields (pages.Header h) = HeaderHas h.obj h.pctfree h.low h.high h.extents
Fields (pages.Rows x) = Unit {0}

-- ---- lists of which each element passes

pub set_all : {A : Type 0} (P : A → Type 0) (xs : List A) (i : ℕ) (y : A) → P y → AllByRecursion P xs → AllByRecursion P (set xs i y)
set_all P [] i y p h = tt
set_all P (x ∷ xs) zero y p h = (p, h.1)
set_all P (x ∷ xs) (suc i) y p h = (h.0, set_all P xs i y p h.1)

pub take_all : {A : Type 0} (P : A → Type 0) (n : ℕ) (xs : List A) → AllByRecursion P xs → AllByRecursion P (take n xs)
take_all P zero xs h = tt
take_all P (suc n) [] h = tt
take_all P (suc n) (x ∷ xs) h = (h.0, take_all P n xs h.1)

pub push_all : {A : Type 0} (P : A → Type 0) (xs : List A) (y : A) → P y → AllByRecursion P xs → AllByRecursion P (xs ++ y ∷ [])
push_all P [] y p h = (p, tt)
push_all P (x ∷ xs) y p h = (h.0, push_all P xs y p h.1)

pub one_all : {A : Type 0} (P : A → Type 0) (xs : List A) (i : ℕ) (d : A) → P d → AllByRecursion P xs → P (get_or xs i d)
one_all P [] i d p h = p
one_all P (x ∷ xs) zero d p h = h.0
one_all P (x ∷ xs) (suc i) d p h = one_all P xs i d p h.1

pub each_all : {A : Type 0} (P : A → Type 0) (xs : List A) (d : A) → ((i : ℕ) → P (get_or xs i d)) → AllByRecursion P xs
each_all P [] d h = tt
each_all P (x ∷ xs) d h = (h zero, each_all P xs d (λ i. h (suc i)))

pub get_set : {A : Type 0} (P : A → Type 0) (xs : List A) (j : ℕ) (y : A) (i : ℕ) (d : A) → P y → P (get_or xs i d) → P (get_or (set xs j y) i d)
get_set P [] j y i d p h = h
get_set P (x ∷ xs) zero y zero d p h = p
get_set P (x ∷ xs) zero y (suc i) d p h = h
get_set P (x ∷ xs) (suc j) y zero d p h = h
get_set P (x ∷ xs) (suc j) y (suc i) d p h = get_set P xs j y i d p h
