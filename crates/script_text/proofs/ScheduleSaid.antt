-- The items of a schedule that is printed are read as its turns, and turns that are read have items.
use Rattle.std.proofs.Common.{◌≡◌, ℕ, ◌^◌, ◌≤◌, ◌<◌, ◌&&◌, ◌||◌, ◌⊎◌, not, Bool, true, false, cond, List, [], ◌∷◌, ◌++◌, refl, ap, sym, subst, ◌∙◌, arith, Option, Some, None, Result, Ok, Err, eqb, codes, map, append_assoc, inl, inr, eqb-true, ne_eqb, true≢false, append-nil, decimal, bytes_eq, ok_or}
use Rattle.std.proofs.lemmas.Slice.Eq.{bytes_eq-Decides}
use Rattle.std.proofs.lemmas.Fmt.{decimal_injective, decimal_digit}
use Rattle.seg_words.specs.Types.{list_all, list_any, AllByRecursion}
use Rattle.script_text.specs.OwnTypes.{Turns, Forms, Why, ScheduleSession, NotAStatement, BadNumber}
use Rattle.script_text.specs.Pieces.{cut, words, number_of, is_digit}
use Rattle.script_text.specs.Rows.{◌>>=◌}
use Rattle.script_text.specs.Schedule.{times_of, is_item, is_flush, turns_in, turns_with, with_turns, items_of}
use Rattle.script_text.specs.Spelled.{IsTurns, item_text, items_text}
use Rattle.script_text.proofs.Cuts.{split_at, split_end}
use Rattle.script_text.proofs.Spellings.{both_true, cut_front, cut_nowhere, decimal_digits, decimal_is_number, number_says, number_zero}
use Rattle.script_text.proofs.RowsFit.{IfRead, chosen, refused, step, ordinal_within, number_within, from_or}

-- ---- bytes of an item
abbrev pub is_item_byte : ℕ → Bool
is_item_byte b = is_digit b || eqb b 120

pub all_append : (p : ℕ → Bool) (xs ys : List ℕ) → list_all p xs ≡ true → list_all p ys ≡ true → list_all p (xs ++ ys) ≡ true
all_append p [] ys h k = k
all_append p (x ∷ xs) ys h k =
    let each = both_true (p x) (list_all p xs) h in
    ap (λ b. b && list_all p (xs ++ ys)) each.0 ∙ all_append p xs ys each.1 k

pub all_weaker : (p q : ℕ → Bool) → ((b : ℕ) → p b ≡ true → q b ≡ true) → (xs : List ℕ) → list_all p xs ≡ true → list_all q xs ≡ true
all_weaker p q w [] h = refl
all_weaker p q w (x ∷ xs) h =
    let each = both_true (p x) (list_all p xs) h in
    ap (λ b. b && list_all q xs) (w x each.0) ∙ all_weaker p q w xs each.1

digits_are : (n : ℕ) → n < 2 ^ 64 → list_all is_item_byte (decimal n) ≡ true
digits_are n big = all_weaker is_digit is_item_byte (λ b h. ap (λ t. t || eqb b 120) h) (decimal n) (decimal_digits n big)

-- ---- an item, cut at its `x`
pub record IsCut (turns : Turns) (item : List ℕ) : Type 0 where
  pub after : Option (List ℕ)
  pub cuts : cut 120 item ≡ (decimal turns.who, after)
  pub times : times_of after ≡ Some turns.times
  pub bytes : list_all is_item_byte item ≡ true

item_test : (turns : Turns) (once : Bool) → eqb turns.times 1 ≡ once → turns.who < 2 ^ 64 → 0 < turns.times → turns.times ≤ 1000000 → IsCut turns (cond once (decimal turns.who) (decimal turns.who ++ 120 ∷ decimal turns.times))
item_test turns true e big some few = record {
  after = None;
  cuts = cut_nowhere is_digit 120 (decimal turns.who) (decimal_digits turns.who big) refl;
  times = ap Some (sym (eqb-true turns.times 1 e));
  bytes = digits_are turns.who big;
}
item_test turns false e big some few =
    let wide : turns.times < 2 ^ 64 = omega (arith, few) in
    let nonzero : eqb turns.times 0 ≡ false = ne_eqb turns.times 0 (λ z. absurd (omega (arith, z, some))) in
    record {
      after = Some (decimal turns.times);
      cuts = cut_front is_digit 120 (decimal turns.who) (decimal turns.times) (decimal_digits turns.who big) refl;
      times = rw (number_says 1000000 turns.times few wide, nonzero) refl;
      bytes = all_append is_item_byte (decimal turns.who) (120 ∷ decimal turns.times) (digits_are turns.who big) (digits_are turns.times wide);
    }

pub item_is : (forms : Forms) (sessions : ℕ) (turns : Turns) → sessions ≤ 64 → IsTurns forms sessions turns → IsCut turns (item_text turns)
unfolding item_text
item_is forms sessions turns few h = item_test turns (eqb turns.times 1) refl (omega (arith, few, h.who)) h.some h.few

-- ---- what each test says of it
is_item_says : (turns : Turns) (item : List ℕ) → turns.who < 2 ^ 64 → IsCut turns item → is_item item ≡ true
is_item_says turns item big h = rw (h.cuts, decimal_is_number turns.who big, h.times) refl

turns_says : (sessions : ℕ) (turns : Turns) (item : List ℕ) → turns.who ≤ sessions → turns.who < 2 ^ 64 → IsCut turns item → turns_in sessions item ≡ Some turns
turns_says sessions turns item small big h = rw (h.cuts, number_says sessions turns.who small big, h.times) refl

flush_test : (who : ℕ) (b : Bool) → bytes_eq (decimal who) (codes "0") ≡ b → who < 2 ^ 64 → (who ≡ 0 → ⊥) → b ≡ false
flush_test who false e big some = refl
flush_test who true e big some =
    absurd (some (decimal_injective who 0 big (omega arith) ((bytes_eq-Decides (decimal who) (codes "0")).0 e ∙ sym (decimal_digit 0 (omega arith)))))

flush_says : (turns : Turns) (item : List ℕ) → turns.who < 2 ^ 64 → (turns.who ≡ 0 → ⊥) → IsCut turns item → is_flush item ≡ false
flush_says turns item big some h =
    ap (λ (c : List ℕ × Option (List ℕ)). bytes_eq c.0 (codes "0")) h.cuts ∙ flush_test turns.who (bytes_eq (decimal turns.who) (codes "0")) refl big some

-- ---- all items
abbrev AllTurns : Forms → ℕ → List Turns → Type 0
AllTurns forms sessions schedule = AllByRecursion (IsTurns forms sessions) schedule

words_say : (forms : Forms) (sessions : ℕ) (turns : Turns) (rest : List Turns) → sessions ≤ 64 → IsTurns forms sessions turns → AllTurns forms sessions rest → words (item_text turns ++ items_text rest) ≡ map item_text (turns ∷ rest)
words_say forms sessions turns [] few h hs =
    ap words (append-nil (item_text turns)) ∙ split_end 32 (item_text turns) (item_text turns) (cut_nowhere is_item_byte 32 (item_text turns) (item_is forms sessions turns few h).bytes refl)
words_say forms sessions turns (next ∷ rest) few h hs =
    split_at 32 (item_text turns ++ 32 ∷ (item_text next ++ items_text rest)) (item_text turns) (item_text next ++ items_text rest) (cut_front is_item_byte 32 (item_text turns) (item_text next ++ items_text rest) (item_is forms sessions turns few h).bytes refl)
    ∙ ap (λ (z : List (List ℕ)). item_text turns ∷ z) (words_say forms sessions next rest few hs.0 hs.1)

are_items_say : (forms : Forms) (sessions : ℕ) (schedule : List Turns) → sessions ≤ 64 → AllTurns forms sessions schedule → list_all is_item (map item_text schedule) ≡ true
are_items_say forms sessions [] few h = refl
are_items_say forms sessions (turns ∷ rest) few h =
    let one = is_item_says turns (item_text turns) (omega (arith, few, h.0.who)) (item_is forms sessions turns few h.0) in
    ap (λ b. b && list_all is_item (map item_text rest)) one ∙ are_items_say forms sessions rest few h.1

no_flush_says : (forms : Forms) (sessions : ℕ) (schedule : List Turns) → sessions ≤ 64 → forms.flushes ≡ false → AllTurns forms sessions schedule → list_any is_flush (map item_text schedule) ≡ false
no_flush_says forms sessions [] few off h = refl
no_flush_says forms sessions (turns ∷ rest) few off h =
    let some : turns.who ≡ 0 → ⊥ = λ z. true≢false (sym (h.0.flush z) ∙ off) in
    let one = flush_says turns (item_text turns) (omega (arith, few, h.0.who)) some (item_is forms sessions turns few h.0) in
    ap (λ b. b || list_any is_flush (map item_text rest)) one ∙ no_flush_says forms sessions rest few off h.1

with_turns_say : (forms : Forms) (sessions : ℕ) (before schedule : List Turns) → sessions ≤ 64 → AllTurns forms sessions schedule → with_turns before sessions (map item_text schedule) ≡ Ok (before ++ schedule)
with_turns_say forms sessions before [] few h = ap Ok (sym (append-nil before))
with_turns_say forms sessions before (turns ∷ rest) few h =
    let one = turns_says sessions turns (item_text turns) h.0.who (omega (arith, few, h.0.who)) (item_is forms sessions turns few h.0) in
    ap (λ (o : Option Turns). ok_or o ScheduleSession >>= λ t. with_turns (before ++ t ∷ []) sessions (map item_text rest)) one
    ∙ with_turns_say forms sessions (before ++ turns ∷ []) rest few h.1
    ∙ ap Ok (append_assoc before (turns ∷ []) rest)

flushes_pass : (forms : Forms) (sessions : ℕ) (schedule : List Turns) (b : Bool) → forms.flushes ≡ b → sessions ≤ 64 → AllTurns forms sessions schedule → (not b && list_any is_flush (map item_text schedule)) ≡ false
flushes_pass forms sessions schedule true e few h = refl
flushes_pass forms sessions schedule false e few h = no_flush_says forms sessions schedule few e h

-- what the items of a printed schedule add
pub items_say : (forms : Forms) (sessions : ℕ) (before : List Turns) (turns : Turns) (rest : List Turns) → sessions ≤ 64 → IsTurns forms sessions turns → AllTurns forms sessions rest → items_of forms before sessions (words (item_text turns ++ items_text rest)) ≡ Ok (before ++ turns ∷ rest)
items_say forms sessions before turns rest few h hs =
    ap (items_of forms before sessions) (words_say forms sessions turns rest few h hs)
    ∙ rw (flushes_pass forms sessions (turns ∷ rest) forms.flushes refl few (h, hs), are_items_say forms sessions (turns ∷ rest) few (h, hs)) (with_turns_say forms sessions before (turns ∷ rest) few (h, hs))

-- ---- turns that are read
abbrev MayFlush : Forms → List (List ℕ) → Type 0
MayFlush forms items = (forms.flushes ≡ true) ⊎ (list_any is_flush items ≡ false)

turns_push : (forms : Forms) (sessions : ℕ) (before : List Turns) (turns : Turns) → AllTurns forms sessions before → IsTurns forms sessions turns → AllTurns forms sessions (before ++ turns ∷ [])
turns_push forms sessions [] turns h t = (t, tt)
turns_push forms sessions (x ∷ xs) turns h t = (h.0, turns_push forms sessions xs turns h.1 t)

times_within : (o : Option (List ℕ)) (times : ℕ) → times_of o ≡ Some times → (0 < times) × (times ≤ 1000000)
times_within None times h = let same : 1 ≡ times = cc in (omega (arith, same), omega (arith, same))
times_within (Some digits) times h = ordinal_within 1000000 times digits h

either_false : (a b : Bool) → (a || b) ≡ false → (a ≡ false) × (b ≡ false)
either_false true b h = cc
either_false false b h = (refl, h)

turns_fit : (forms : Forms) (sessions : ℕ) (item : List ℕ) (who times : Option ℕ) (turns : Turns) → sessions < 2 ^ 64 → forms.schedule ≡ true → (forms.flushes ≡ true) ⊎ (is_flush item ≡ false) → number_of sessions (cut 120 item).0 ≡ who → times_of (cut 120 item).1 ≡ times → turns_with who times ≡ Some turns → IsTurns forms sessions turns
turns_fit forms sessions item None times turns big on flush e f h = cc
turns_fit forms sessions item (Some who) None turns big on flush e f h = cc
turns_fit forms sessions item (Some who) (Some times) turns big on flush e f h =
    let some = times_within (cut 120 item).1 times f in
    let P : Turns → Type 0 = λ t. IsTurns forms sessions t in
    let made : record { who = who; times = times } ≡ turns = cc in
    subst P made (record {
      built = on;
      who = number_within sessions who (cut 120 item).0 e;
      some = some.0;
      few = some.1;
      flush = λ z. flush_built flush (number_zero sessions (cut 120 item).0 big (e ∙ ap Some z));
    })
  where
    flush_built : (forms.flushes ≡ true) ⊎ (is_flush item ≡ false) → bytes_eq (cut 120 item).0 (codes "0") ≡ true → forms.flushes ≡ true
    flush_built (inl open_to) k = open_to
    flush_built (inr none) k = absurd (true≢false (sym k ∙ none))

pub turns_all_fit : (forms : Forms) (sessions : ℕ) (before : List Turns) (items : List (List ℕ)) → sessions < 2 ^ 64 → forms.schedule ≡ true → MayFlush forms items → AllTurns forms sessions before → IfRead (with_turns before sessions items) (AllTurns forms sessions)
turns_all_fit forms sessions before [] big on flush h = λ x e. let same : before ≡ x = cc in subst (AllTurns forms sessions) same h
turns_all_fit forms sessions before (item ∷ items) big on flush h =
    step {P = IsTurns forms sessions} (λ turns e. turns_fit forms sessions item (number_of sessions (cut 120 item).0) (times_of (cut 120 item).1) turns big on (first flush) refl refl (from_or (turns_in sessions item) ScheduleSession turns e))
    (λ turns t. turns_all_fit forms sessions (before ++ turns ∷ []) items big on (others flush) (turns_push forms sessions before turns h t))
  where
    first : MayFlush forms (item ∷ items) → (forms.flushes ≡ true) ⊎ (is_flush item ≡ false)
    first (inl a) = inl a
    first (inr b) = inr (either_false (is_flush item) (list_any is_flush items) b).0

    others : MayFlush forms (item ∷ items) → MayFlush forms items
    others (inl a) = inl a
    others (inr b) = inr (either_false (is_flush item) (list_any is_flush items) b).1

by_flush : (forms : Forms) (sessions : ℕ) (before : List Turns) (items : List (List ℕ)) (f a : Bool) → sessions < 2 ^ 64 → forms.flushes ≡ f → list_any is_flush items ≡ a → forms.schedule ≡ true → AllTurns forms sessions before → IfRead (cond {A = Result (List Turns) Why} (not f && a) (Err NotAStatement) (cond (list_all is_item items) (with_turns before sessions items) (Err BadNumber))) (AllTurns forms sessions)
by_flush forms sessions before items true a big e k on h = chosen (list_all is_item items) (turns_all_fit forms sessions before items big on (inl e) h) (refused _ BadNumber)
by_flush forms sessions before items false true big e k on h = refused _ NotAStatement
by_flush forms sessions before items false false big e k on h = chosen (list_all is_item items) (turns_all_fit forms sessions before items big on (inr k) h) (refused _ BadNumber)

pub items_fit : (forms : Forms) (sessions : ℕ) (before : List Turns) (items : List (List ℕ)) → sessions < 2 ^ 64 → forms.schedule ≡ true → AllTurns forms sessions before → IfRead (items_of forms before sessions items) (AllTurns forms sessions)
items_fit forms sessions before items big on h = by_flush forms sessions before items forms.flushes (list_any is_flush items) big refl refl on h
