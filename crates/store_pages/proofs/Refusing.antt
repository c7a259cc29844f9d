-- Records redone on the pages of a data file that may hold anything.
use Rattle.std.proofs.Common.{◌≡◌, inl, inr, ℕ, zero, suc, ◌<◌, ◌≤◌, Bool, true, false, ◌||◌, nat_eq, nat_lt, eqb, cond, List, [], ◌∷◌, ◌++◌, length, get_or, Option, Some, None, Err, IfSome, refl, sym, ap, subst, arith, ⊎_elim, ltb-true}
use Rattle.std.specs.List.{list_any}
use Rattle.std.specs.Option.{option_map}
use Rattle.std.proofs.lemmas.Bool.{true≢false}
use Rattle.seg_words.specs.Types.{AllByRecursion, Shape, TXN_TABLE_BLOCK}
use Rattle.disk_model.specs.Types.{Meaning, IsSettled}
use Rattle.disk_model.specs.declared.disk.File.TheVariants.{Data}
use Rattle.redo_record.specs.declared.record.Record.{Record}
use Rattle.page_store.specs.declared.fault.PageFault.{PageFault}
use Rattle.page_store.specs.declared.fault.PageFault.TheVariants.{DeviceFault, BadPage, NoMemory}
use Rattle.page_store.specs.Types.{is_sound_area, IsOpening, IsStore, Leads, Names}
use Rattle.page_store.specs.Pages.{page_of as filed, HasPages as IsFileOf}
use Rattle.page_set.specs.declared.page.Page.{Page}
use Rattle.page_set.specs.Pages.{lsn_of}
use Rattle.page_set.specs.Changes.{changed_page}
use Rattle.page_set.specs.Among.{is_among}
use Rattle.page_set.specs.Folded.{touched}
use Rattle.buffer_pool.specs.declared.changed.NewPage.{NewPage}
use Rattle.buffer_pool.specs.declared.frame.Frame.{Frame}
use Rattle.buffer_pool.specs.Frames.{dirty_frame, frame_at, framed, in_file, IsSpelled, Pool, SameDirty, Shows}
use Rattle.buffer_pool.specs.Batches.{cleaned, AreDirtyUpTo, Settled}
use Rattle.buffer_pool.specs.Preparing.{frame_with, made, one_made, over_in, Installed}
use Rattle.buffer_pool.specs.Reading.{IsReading}
use Rattle.pool_laws.proofs.Plain.{lsn_or_same}
use Rattle.store_pages.specs.Fitting.{IsSoundFault}
use Rattle.store_pages.specs.Refused.{AnyTouches, HasBlocks, IsRefused, IsUnread}
use Rattle.store_pages.proofs.Opened.{table_there}

-- ---- how far the pages in dirty frames have come

abbrev Up : ℕ → Option Frame → Type 0
Up upto o = IfSome o (λ f. f.dirty ≡ true → lsn_of f.page ≤ upto)

abbrev AreUp : ℕ → List NewPage → Type 0
AreUp upto ns = AllByRecursion (λ (n : NewPage). lsn_of n.page ≤ upto) ns

pub dirty_more : (m n : ℕ) (held : List (ℕ × Frame)) → m ≤ n → AreDirtyUpTo m held → AreDirtyUpTo n held
dirty_more m n held le up = record { at = λ d. more (frame_at held d) (up.at d) }
  where
    more : (o : Option Frame) → Up m o → Up n o
    more None h = tt
    more (Some f) h = λ dirty. let few = h dirty in omega (arith, few, le)

pub dirty_settled : (upto : ℕ) (blocks : List ℕ) (old new : List (ℕ × Frame)) → Settled blocks old new → AreDirtyUpTo upto old → AreDirtyUpTo upto new
dirty_settled upto blocks old new settled up = record { at = λ d. subst (Up upto) (sym (settled.at d)) (decide (list_any (λ b. nat_eq b d) blocks) (frame_at old d) (up.at d)) }
  where
    decide : (t : Bool) (o : Option Frame) → Up upto o → Up upto (cond t (option_map cleaned o) o)
    decide true None h = tt
    decide true (Some f) h = λ dirty. absurd (true≢false (sym dirty))
    decide false o h = h

pub dirty_looked : (upto : ℕ) (old new : List (ℕ × Frame)) → SameDirty old new → AreDirtyUpTo upto old → AreDirtyUpTo upto new
dirty_looked upto old new same up = record { at = λ d. decide d (frame_at new d) refl }
  where
    decide : (d : ℕ) (o : Option Frame) → frame_at new d ≡ o → Up upto o
    decide d None is = tt
    decide d (Some f) is = λ dirty. (subst (Up upto) ((same.at d f dirty).0 is) (up.at d)) dirty

up_with : (upto d : ℕ) (ns : List NewPage) (o : Option Frame) → AreUp upto ns → Up upto o → Up upto (frame_with ns o d)
up_with upto d [] o all h = h
up_with upto d (n ∷ ns) o all h = up_with upto d ns (cond (eqb n.dba d) (Some (dirty_frame n.page)) o) all.1 (decide (eqb n.dba d))
  where
    decide : (t : Bool) → Up upto (cond t (Some (dirty_frame n.page)) o)
    decide true = λ dirty. all.0
    decide false = h

up_one : (r : Record) (lsn d upto : ℕ) (p : Page) → lsn ≤ upto → AreUp upto (one_made r lsn d p)
up_one r lsn d upto p le = decide (nat_lt (lsn_of p) lsn) refl
  where
    decide : (t : Bool) → nat_lt (lsn_of p) lsn ≡ t → AreUp upto (cond t (record { dba = d; page = changed_page r lsn p } ∷ []) [])
    decide true y =
        let less : lsn_of p < lsn = ltb-true (lsn_of p) lsn y in
        (⊎_elim (λ own. omega (arith, own, le)) (λ kept. let same : lsn_of (changed_page r lsn p) ≡ lsn_of p = ap lsn_of kept in omega (arith, same, less, le)) (lsn_or_same r lsn p), tt)
    decide false n = tt

up_append : (upto : ℕ) (ns ms : List NewPage) → AreUp upto ns → AreUp upto ms → AreUp upto (ns ++ ms)
up_append upto [] ms h k = k
up_append upto (n ∷ ns) ms h k = (h.0, up_append upto ns ms h.1 k)

up_made : (r : Record) (lsn upto : ℕ) (first : List NewPage) (held : List (ℕ × Frame)) (ds : List ℕ) → lsn ≤ upto → AreUp upto (made r lsn first held ds)
up_made r lsn upto first held [] le = tt
up_made r lsn upto first held (d ∷ ds) le = up_append upto (one_made r lsn d (over_in first (framed held d) d)) (made r lsn first held ds) (up_one r lsn d upto (over_in first (framed held d) d) le) (up_made r lsn upto first held ds le)

pub dirty_redone : (r : Record) (lsn upto : ℕ) (ds : List ℕ) (new : List NewPage) (a b c : List (ℕ × Frame)) → lsn ≤ upto → SameDirty a b → new ≡ made r lsn [] b ds → Installed new b c → AreDirtyUpTo upto a → AreDirtyUpTo upto c
dirty_redone r lsn upto ds new a b c le same is installed up =
    let looked = dirty_looked upto a b same up in
    let all : AreUp upto new = subst (AreUp upto) (sym is) (up_made r lsn upto [] b ds le) in
    record { at = λ d. subst (Up upto) (sym (installed.at d)) (up_with upto d new (frame_at b d) all (looked.at d)) }

-- ---- which block is named

pub sound_names : (P : ℕ → Type 0) (e : PageFault) → IsSoundFault e → Names P e
sound_names P DeviceFault h = tt
sound_names P (BadPage b) h = absurd h
sound_names P NoMemory h = tt

pub names_so : (P Q : ℕ → Type 0) (e : PageFault) → ((b : ℕ) → P b → Q b) → Names P e → Names Q e
names_so P Q DeviceFault f h = tt
names_so P Q (BadPage b) f h = f b h
names_so P Q NoMemory f h = tt

any_at : (sh : Shape) (xs : List Record) (i b : ℕ) (r : Record) → i < length xs → is_among (touched sh (get_or xs i r)) b ≡ true → AnyTouches sh xs b
any_at sh [] i b r lt h = absurd (omega (arith, lt))
any_at sh (x ∷ xs) zero b r lt h = first (is_among (touched sh x) b) (list_any (λ (y : Record). is_among (touched sh y) b) xs) h
  where
    first : (p q : Bool) → p ≡ true → (p || q) ≡ true
    first true q h = refl
    first false q h = absurd (true≢false (sym h))
any_at sh (x ∷ xs) (suc i) b r lt h = behind (is_among (touched sh x) b) (list_any (λ (y : Record). is_among (touched sh y) b) xs) (any_at sh xs i b r (omega (arith, lt)) h)
  where
    behind : (p q : Bool) → q ≡ true → (p || q) ≡ true
    behind true q h = refl
    behind false q h = h

pub names_item : (sh sh2 : Shape) (xs : List Record) (i : ℕ) (r : Record) (e : PageFault) → sh2 ≡ sh → r ≡ get_or xs i r → i < length xs → Names (λ b. is_among (touched sh2 r) b ≡ true) e → Names (AnyTouches sh xs) e
names_item sh sh2 xs i r e same is lt =
    names_so (λ b. is_among (touched sh2 r) b ≡ true) (AnyTouches sh xs) e (λ b h. any_at sh xs i b r lt (subst (λ (x : Record). is_among (touched sh x) b ≡ true) is (subst (λ (s : Shape). is_among (touched s r) b ≡ true) same h)))

pub names_then : (sh sh2 : Shape) (r : Record) (e : PageFault) → sh2 ≡ sh → Names (λ b. is_among (touched sh2 r) b ≡ true) e → Names (λ b. is_among (touched sh r) b ≡ true) e
names_then sh sh2 r e same h = subst (λ (s : Shape). Names (λ b. is_among (touched s r) b ≡ true) e) same h

pub unsound_names : (sh : Shape) (bytes : List ℕ) (e : PageFault) → IsOpening sh bytes (Err e) → Names (IsUnread sh bytes) e
unsound_names sh bytes DeviceFault h = tt
unsound_names sh bytes (BadPage b) h = inl (h.0, h.1)
unsound_names sh bytes NoMemory h = tt

module _ {D : Type 0} (meaning : Meaning D) (d0 : D) (sh : Shape) (has : HasBlocks meaning d0 sh) where
  abbrev bytes : List ℕ
  bytes = (meaning.files d0).data_bytes

  any_file : is_sound_area sh bytes ≡ true → IsFileOf sh (filed bytes) bytes
  any_file sound = record { within = has.within; long = has.long; area = sound; each = λ b place. refl }

  unread : (P : Pool → Type 0) (e : PageFault) → is_sound_area sh bytes ≡ true → IsReading sh TXN_TABLE_BLOCK (IsSpelled TXN_TABLE_BLOCK (filed bytes TXN_TABLE_BLOCK)) P (Err e) → Names (IsUnread sh bytes) e
  unread P DeviceFault sound is = tt
  unread P (BadPage b) sound is = inr (sound, is.0, λ spelled. is.1 (table_there sh has.within) (subst (λ (d : ℕ). IsSpelled d (filed bytes d)) is.0 spelled))
  unread P NoMemory sound is = tt

  pub unread_table : (d1 : D) (store : Shape) (e : PageFault) → store ≡ sh → is_sound_area sh bytes ≡ true
      → ((pages : ℕ → List ℕ) → IsSettled meaning d0 Data → IsFileOf sh pages bytes → Leads meaning d0 d1 sh pages)
      → ((pages : ℕ → List ℕ) → IsStore meaning d1 store pages → IsReading store TXN_TABLE_BLOCK (IsSpelled TXN_TABLE_BLOCK (pages TXN_TABLE_BLOCK)) (λ (pool : Pool). Shows store pages (in_file pages) pool.held) (Err e))
      → Names (IsUnread sh bytes) e
  unread_table d1 store e at sound leads reads =
      let lead = leads (filed bytes) has.settled (any_file sound) in
      unread (λ (pool : Pool). Shows sh (filed bytes) (in_file (filed bytes)) pool.held) e sound
      (subst (λ (s : Shape). IsReading s TXN_TABLE_BLOCK (IsSpelled TXN_TABLE_BLOCK (filed bytes TXN_TABLE_BLOCK)) (λ (pool : Pool). Shows s (filed bytes) (in_file (filed bytes)) pool.held) (Err e)) at
      (reads (filed bytes) (subst (λ (s : Shape). IsStore meaning d1 s (filed bytes)) (sym at) lead.store)))

  pub refused_first : (records : List Record) (e : PageFault) → Names (IsUnread sh bytes) e → Names (IsRefused sh bytes records) e
  refused_first records e = names_so (IsUnread sh bytes) (IsRefused sh bytes records) e (λ b h. inl h)

  pub refused_later : (records : List Record) (sh2 : Shape) (e : PageFault) → sh2 ≡ sh → is_sound_area sh bytes ≡ true → Names (AnyTouches sh2 records) e → Names (IsRefused sh bytes records) e
  refused_later records sh2 e same sound = names_so (AnyTouches sh2 records) (IsRefused sh bytes records) e (λ b h. inr (sound, subst (λ (s : Shape). AnyTouches s records b) same h))
