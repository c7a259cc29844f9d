-- Why a store isn't opened.
use Rattle.std.proofs.Common.{◌≡◌, ◌⊎◌, inl, inr, ℕ, zero, suc, ◌-◌, min, List, [], ◌∷◌, ◌++◌, length, take, drop, get_or, sym, ◌∙◌, ap, subst, arith, Ok, Err}
use Rattle.std.specs.Prelude.{slice_index, Result, IfErr}
use Rattle.seg_words.proofs.Lemmas.{drop_more, get_or_past}
use Rattle.seg_words.specs.Types.{Shape}
use Rattle.disk_model.specs.Types.{Files}
use Rattle.disk_model.specs.declared.disk.File.TheVariants.{Data, Log}
use Rattle.log_frame.proofs.Laws.{formatted, head_is}
use Rattle.redo_model.specs.Records.{Record}
use Rattle.store_files.specs.Store.{IsShapeFound, IsStore, Answers}
use Rattle.store_files.specs.declared.fault.OpenFault.{OpenFault}
use Rattle.store_files.specs.declared.fault.OpenFault.TheVariants.{DeviceFault, NotFormatted, BadFile, AlreadyFormatted, NoMemory}
use Rattle.store_core.specs.Store.{Read}
use Rattle.store_core.specs.Survives.{IsSound}
use Rattle.store_core.specs.Causes.{IsSoundFault, IsSoundOpen}
use Rattle.store_core.specs.Preparing.{HeadSays, PageBreaks, IsReadOf, IsRefused as IsLogRefused}
use Rattle.store_core.specs.declared.fault.StoreFault.{StoreFault}
use Rattle.store_core.specs.declared.fault.StoreFault.TheVariants as faults
use Rattle.store_core.specs.declared.fault.StoreOpen.{StoreOpen}
use Rattle.store_core.specs.declared.fault.StoreOpen.TheVariants as opens
use Rattle.recovery.specs.Refused.{HasBlocks, IsRead, IsRefused, WhyLeftActive, IsLeftActive, Shows, IsSoundRefusal}
use Rattle.recovery.specs.FaultOf.{IsFirstByte, IsReadFault, IsStoreFault}

-- one byte that was read, over a zero
pub byte_read : (file : List ℕ) (at n : ℕ) (buf : List ℕ) → n ≡ min 1 (length file - at) → buf ≡ take n (drop at file) ++ drop n (0 ∷ []) → get_or buf 0 0 ≡ slice_index file at
byte_read file at zero buf few is = ap (λ (l : List ℕ). get_or l 0 0) is ∙ sym (get_or_past file at 0 (omega (arith, few)))
byte_read file at (suc zero) buf few is = ap (λ (l : List ℕ). get_or l 0 0) is ∙ ap (λ (l : List ℕ). get_or (take 1 l ++ drop 1 (0 ∷ [])) 0 0) (drop_more file at 0 (omega (arith, few)))
byte_read file at (suc (suc n)) buf few is = absurd (omega (arith, few))

-- ---- the head, and the length of the data file

same_head : (file : List ℕ) (a b : Shape) → HeadSays file a → HeadSays file b → a ≡ b
same_head file a b h k = let x = h.found in let y = k.found in cc

pub head_refused : (files : Files) (e : OpenFault) → IsShapeFound files (Err e) → IsRefused files e
head_refused files DeviceFault is = tt
head_refused files NotFormatted is = is
head_refused files (BadFile Log offset seen) is = inl (record { formatted = is.0; found = is.1 })
head_refused files (BadFile Data offset seen) is = inl (record { shape = is.1.0; head = record { formatted = is.0; found = is.1.1 }; short = is.1.2; at_end = is.2; none = is.3 })
head_refused files AlreadyFormatted is = absurd is
head_refused files NoMemory is = absurd is

pub head_shows : (files : Files) (e : OpenFault) → IsShapeFound files (Err e) → Shows files e
head_shows files DeviceFault is = tt
head_shows files NotFormatted is = tt
head_shows files (BadFile Log offset seen) is = tt
head_shows files (BadFile Data offset seen) is = let end = is.2 in is.3 ∙ sym (get_or_past files.data_bytes offset 0 (omega (arith, end)))
head_shows files AlreadyFormatted is = tt
head_shows files NoMemory is = tt

pub head_blocks : (files : Files) (sh : Shape) → IsShapeFound files (Ok sh) → HasBlocks sh files
head_blocks files sh is = record { head = record { formatted = is.0; found = is.1 }; long = is.2 }

-- ---- the log and its pages

blocks_as : (files : Files) (a b : Shape) → HasBlocks a files → HeadSays files.log_bytes b → HasBlocks b files
blocks_as files a b blocks head = subst (λ (s : Shape). HasBlocks s files) (same_head files.log_bytes a b blocks.head head) blocks

page_refused : (files : Files) (sh : Shape) (d : ℕ) (e : OpenFault) → HasBlocks sh files → PageBreaks files.log_bytes d → IsFirstByte files d e → IsRefused files e
page_refused files sh d DeviceFault blocks why is = tt
page_refused files sh d NotFormatted blocks why is = absurd is
page_refused files sh d (BadFile Log offset seen) blocks why is = absurd is
page_refused files sh d (BadFile Data offset seen) blocks why is = inr (record {
  shape = why.shape;
  R = why.R;
  reads = record { blocks = blocks_as files sh why.shape blocks why.head; end = why.at; ends = why.ends };
  block = d;
  stops = why.stops;
  begins = is.0;
  is = is.1;
})
page_refused files sh d AlreadyFormatted blocks why is = absurd is
page_refused files sh d NoMemory blocks why is = absurd is

pub read_refused : (files : Files) (sh : Shape) (f : StoreOpen) (e : OpenFault) → HasBlocks sh files → IsLogRefused files.log_bytes f → IsReadFault files f e → IsRefused files e
read_refused files sh opens.DeviceFault e blocks why same = subst (IsRefused files) (sym same) tt
read_refused files sh opens.NotOpen e blocks why same = subst (IsRefused files) (sym same) why
read_refused files sh (opens.BadLog offset seen) e blocks why same = subst (IsRefused files) (sym same) (elim why [ inl head ↦ inl head | inr group ↦ inr (record { shape = sh; blocks = blocks; breaks = group.breaks }) ])
read_refused files sh (opens.BadPage d) e blocks why same = page_refused files sh d e blocks why same
read_refused files sh opens.NoMemory e blocks why same = subst (IsRefused files) (sym same) (sh, blocks)

byte_shows : (files : Files) (d : ℕ) (e : OpenFault) → IsFirstByte files d e → Shows files e
byte_shows files d DeviceFault is = tt
byte_shows files d NotFormatted is = tt
byte_shows files d (BadFile Log offset seen) is = tt
byte_shows files d (BadFile Data offset seen) is = is.1
byte_shows files d AlreadyFormatted is = tt
byte_shows files d NoMemory is = tt

pub read_shows : (files : Files) (f : StoreOpen) (e : OpenFault) → IsReadFault files f e → Shows files e
read_shows files opens.DeviceFault e same = subst (Shows files) (sym same) tt
read_shows files opens.NotOpen e same = subst (Shows files) (sym same) tt
read_shows files (opens.BadLog offset seen) e same = subst (Shows files) (sym same) tt
read_shows files (opens.BadPage d) e same = byte_shows files d e same
read_shows files opens.NoMemory e same = subst (Shows files) (sym same) tt

pub is_read : {D : Type 0} (files : Files) (sh : Shape) (r : Read D) → HasBlocks sh files → IsReadOf files.log_bytes r → IsRead r.shape files
is_read files sh r blocks h = record { R = h.R; reads = record { blocks = blocks_as files sh r.shape blocks h.head; end = r.log.end; ends = h.ends }; fit = h.fit }

-- ---- a sound store

pub store_of : (sh : Shape) (R : List Record) (files : Files) → (s : IsSound sh R files) → IsStore sh s.log.groups files
store_of sh R files s = record { log = s.log.log; long = s.blocks }

pub shape_of : {D : Type 0} (sh : Shape) (R : List Record) (files : Files) (r : Read D) → IsSound sh R files → IsReadOf files.log_bytes r → r.shape ≡ sh
shape_of sh R files r s h = same_head files.log_bytes r.shape sh h.head (record { formatted = formatted sh s.log.groups files.log_bytes s.log.log; found = head_is sh s.log.groups files.log_bytes s.log.log })

pub answers_sound : {A : Type 0} (e : OpenFault) (P : A → Type 0) → Answers (Err e) P → IsSoundRefusal e
answers_sound DeviceFault P h = tt
answers_sound NotFormatted P h = h
answers_sound (BadFile file offset seen) P h = h
answers_sound AlreadyFormatted P h = h
answers_sound NoMemory P h = absurd h

pub read_sound : (files : Files) (f : StoreOpen) (e : OpenFault) → IsSoundOpen f → IsReadFault files f e → IsSoundRefusal e
read_sound files opens.DeviceFault e s same = subst IsSoundRefusal (sym same) tt
read_sound files opens.NotOpen e s same = absurd s
read_sound files (opens.BadLog offset seen) e s same = absurd s
read_sound files (opens.BadPage d) e s same = absurd s
read_sound files opens.NoMemory e s same = subst IsSoundRefusal (sym same) tt

-- ---- a store that was made

page_left : (found left : Files) (sh : Shape) (R : List Record) (d : ℕ) (e : OpenFault) → (IsSound sh R found → ⊥) → IsFirstByte left d e → WhyLeftActive found sh R e
page_left found left sh R d DeviceFault un is = tt
page_left found left sh R d NotFormatted un is = is
page_left found left sh R d (BadFile Log offset seen) un is = is
page_left found left sh R d (BadFile Data offset seen) un is = (un, (d, is.0))
page_left found left sh R d AlreadyFormatted un is = is
page_left found left sh R d NoMemory un is = tt

why_left : (found left : Files) (sh : Shape) (R : List Record) (f : StoreFault) (e : OpenFault) → (IsSound sh R found → IsSoundFault f) → IsStoreFault left f e → WhyLeftActive found sh R e
why_left found left sh R faults.DeviceFault e sound same = subst (WhyLeftActive found sh R) (sym same) tt
why_left found left sh R (faults.BadPage d) e sound same = page_left found left sh R d e sound same
why_left found left sh R faults.NoMemory e sound same = subst (WhyLeftActive found sh R) (sym same) tt

pub left_active : (found left : Files) (sh : Shape) (f : StoreFault) (e : OpenFault) → (r : IsRead sh found) → (IsSound sh r.R found → IsSoundFault f) → IsStoreFault left f e → IsLeftActive found e
left_active found left sh f e r sound same = record { shape = sh; R = r.R; reads = r.reads; fit = r.fit; why = why_left found left sh r.R f e sound same }

pub store_shows : (files : Files) (f : StoreFault) (e : OpenFault) → IsStoreFault files f e → Shows files e
store_shows files faults.DeviceFault e same = subst (Shows files) (sym same) tt
store_shows files (faults.BadPage d) e same = byte_shows files d e same
store_shows files faults.NoMemory e same = subst (Shows files) (sym same) tt

pub store_sound : (files : Files) (f : StoreFault) (e : OpenFault) → IsSoundFault f → IsStoreFault files f e → IsSoundRefusal e
store_sound files faults.DeviceFault e s same = subst IsSoundRefusal (sym same) tt
store_sound files (faults.BadPage d) e s same = absurd s
store_sound files faults.NoMemory e s same = subst IsSoundRefusal (sym same) tt

-- a fault that is handed on, with one of its two causes
pub either : {T : Type 0} (r : Result T OpenFault) (e : OpenFault) (A : Type 0) (P Q : OpenFault → Type 0) → r ≡ Err e → (A × P e) ⊎ Q e → IfErr r (λ e. P e ⊎ Q e)
either {T = T} r e A P Q is why = subst (λ (x : Result T OpenFault). IfErr x (λ e. P e ⊎ Q e)) (sym is) (elim why [ inl first ↦ inl first.1 | inr later ↦ inr later ])
