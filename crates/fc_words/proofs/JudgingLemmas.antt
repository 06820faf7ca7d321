-- What the walk that judges the words holds, and what the grammar makes of them.
use Rattle.std.proofs.Common.{◌≡◌, ◌≢◌, ◌+◌, ◌<◌, ◌==◌, ◌||◌, ◌∙◌, ℕ, zero, suc, Bool, Bor, MatchOption, cond, true, false, refl, sym, ap, subst, arith, codes, List, [], ◌∷◌, ◌++◌, length, Option, Some, None, is_some, option_map, true≢false, get_or}
use Rattle.std.specs.Prelude.{find, option_and_then}
use Rattle.std.specs.List.{after_first, before_first, list_any, position_or_len}
use Rattle.std.specs.Str.{bytes_eq}
use Rattle.std.proofs.lemmas.Bool.Decides.{nat_tests}
use Rattle.std.proofs.lemmas.List.Sums.{fails_before_first}
use Rattle.clap.proofs.CutLemmas.{Lacks, before_first-Lacks, list_any-Lacks}
use Rattle.fc_words.specs.CommandLine.{Settings, Text, complete, dashed_word, format_of, image_of, images_after, is_equals, is_set, number_of, option_alone, option_named, option_with, optional, plain, refused, request_from, settings_after, value_of, with_setting, with_value, with_word, word_of}
use Rattle.fc_words.specs.Judging.{HasValue, Holds, put, rest_after, slot, spelled, word_in}
use Rattle.fc_words.specs.declared.Format.{Format}
use Rattle.fc_words.specs.declared.judging.Given.{Given}
use Rattle.fc_words.specs.declared.judging.Name.{Name}
use Rattle.fc_words.specs.declared.judging.Name.TheVariants as name
use Rattle.fc_words.specs.declared.judging.Next.{Next}
use Rattle.fc_words.specs.declared.judging.Next.TheVariants as next
use Rattle.fc_words.specs.declared.judging.Word.{Word as CodeWord}
use Rattle.fc_words.specs.declared.judging.Word.TheVariants as word
use Rattle.fc_words.proofs.ClapAtWords.{find-append, find_any}

-- ---- settings

is_set-value : (name : Text) (s : Settings) → is_set name s ≡ is_some (value_of name s)
is_set-value name s = sym (find_any (λ p. bytes_eq p.0 name) s) ∙ go (find (λ p. bytes_eq p.0 name) s)
  where
    go : (o : Option (Text × Text)) → is_some o ≡ is_some (option_map (λ p. p.1) o)
    go None = refl
    go (Some p) = refl

-- one more setting keeps the values that are there, and gives its own name one
own_value : (name text : Text) (s : Settings) → bytes_eq name name ≡ true → value_of name s ≡ None → value_of name (s ++ (name, text) ∷ []) ≡ Some text
own_value name text s same none =
    let unset : list_any (λ p. bytes_eq p.0 name) s ≡ false = is_set-value name s ∙ ap is_some none in
    let found : find (λ p. bytes_eq p.0 name) (s ++ (name, text) ∷ []) ≡ Some (name, text) = find-append (λ p. bytes_eq p.0 name) s (name, text) ∙ rw (unset, same) refl in
    ap (option_map (λ p. p.1)) found

other_value : (name other text : Text) (s : Settings) → bytes_eq other name ≡ false → value_of name (s ++ (other, text) ∷ []) ≡ value_of name s
other_value name other text s differs =
    let found : find (λ p. bytes_eq p.0 name) (s ++ (other, text) ∷ []) ≡ find (λ p. bytes_eq p.0 name) s =
    find-append (λ p. bytes_eq p.0 name) s (other, text) ∙ rw differs (go (find (λ p. bytes_eq p.0 name) s) (list_any (λ p. bytes_eq p.0 name) s) (find_any (λ p. bytes_eq p.0 name) s)) in
    ap (option_map (λ p. p.1)) found
  where
    go : (o : Option (Text × Text)) (b : Bool) → is_some o ≡ b → cond b o None ≡ o
    go None true e = refl
    go None false e = refl
    go (Some p) true e = refl
    go (Some p) false e = absurd (true≢false e)

first_setting : (name text : Text) (s : Settings) → value_of name s ≡ None → with_setting name text s ≡ Some (s ++ (name, text) ∷ [])
first_setting name text s none = rw (is_set-value name s ∙ ap is_some none) refl

second_setting : (name text : Text) (s : Settings) (o : Option (Bor Text)) → HasValue s name o → is_some o ≡ true → with_setting name text s ≡ None
second_setting name text s None has e = absurd (true≢false (sym e))
second_setting name text s (Some v) has e = rw (is_set-value name s ∙ ap is_some has) refl

-- ---- what is given

unset : (n : Name) (g : Given) (s : Settings) → Holds g s → slot n g ≡ None → value_of (spelled n) s ≡ None
unset name.New g s h e = h.0 ∙ ap (option_map (λ t. t.now)) e
unset name.ReadOnly g s h e = h.1 ∙ ap (option_map (λ t. t.now)) e
unset name.Demo g s h e = h.2 ∙ ap (option_map (λ t. t.now)) e
unset name.Safe g s h e = h.3 ∙ ap (option_map (λ t. t.now)) e
unset name.Image g s h e = h.4 ∙ ap (option_map (λ t. t.now)) e

again : (n : Name) (g : Given) (text : Text) (s : Settings) → Holds g s → is_some (slot n g) ≡ true → with_setting (spelled n) text s ≡ None
again name.New g text s h e = second_setting (codes "new") text s g.new h.0 e
again name.ReadOnly g text s h e = second_setting (codes "read-only") text s g.read_only h.1 e
again name.Demo g text s h e = second_setting (codes "demo") text s g.demo h.2 e
again name.Safe g text s h e = second_setting (codes "safe") text s g.safe h.3 e
again name.Image g text s h e = second_setting (codes "image") text s g.image h.4 e

put_holds : (n : Name) (v : Bor Text) (g : Given) (s : Settings) → Holds g s → value_of (spelled n) s ≡ None → Holds (put n v g) (s ++ (spelled n, v.now) ∷ [])
put_holds name.New v g s h e =
    let more : (name : Text) → bytes_eq (codes "new") name ≡ false → value_of name (s ++ (codes "new", v.now) ∷ []) ≡ value_of name s = λ name. other_value name (codes "new") v.now s in
    (own_value (codes "new") v.now s refl e, more (codes "read-only") refl ∙ h.1, more (codes "demo") refl ∙ h.2, more (codes "safe") refl ∙ h.3, more (codes "image") refl ∙ h.4)
put_holds name.ReadOnly v g s h e =
    let more : (name : Text) → bytes_eq (codes "read-only") name ≡ false → value_of name (s ++ (codes "read-only", v.now) ∷ []) ≡ value_of name s = λ name. other_value name (codes "read-only") v.now s in
    (more (codes "new") refl ∙ h.0, own_value (codes "read-only") v.now s refl e, more (codes "demo") refl ∙ h.2, more (codes "safe") refl ∙ h.3, more (codes "image") refl ∙ h.4)
put_holds name.Demo v g s h e =
    let more : (name : Text) → bytes_eq (codes "demo") name ≡ false → value_of name (s ++ (codes "demo", v.now) ∷ []) ≡ value_of name s = λ name. other_value name (codes "demo") v.now s in
    (more (codes "new") refl ∙ h.0, more (codes "read-only") refl ∙ h.1, own_value (codes "demo") v.now s refl e, more (codes "safe") refl ∙ h.3, more (codes "image") refl ∙ h.4)
put_holds name.Safe v g s h e =
    let more : (name : Text) → bytes_eq (codes "safe") name ≡ false → value_of name (s ++ (codes "safe", v.now) ∷ []) ≡ value_of name s = λ name. other_value name (codes "safe") v.now s in
    (more (codes "new") refl ∙ h.0, more (codes "read-only") refl ∙ h.1, more (codes "demo") refl ∙ h.2, own_value (codes "safe") v.now s refl e, more (codes "image") refl ∙ h.4)
put_holds name.Image v g s h e =
    let more : (name : Text) → bytes_eq (codes "image") name ≡ false → value_of name (s ++ (codes "image", v.now) ∷ []) ≡ value_of name s = λ name. other_value name (codes "image") v.now s in
    (more (codes "new") refl ∙ h.0, more (codes "read-only") refl ∙ h.1, more (codes "demo") refl ∙ h.2, more (codes "safe") refl ∙ h.3, own_value (codes "image") v.now s refl e)

put_next : (n : Name) (v : Bor Text) (g : Given) → (put n v g).next ≡ g.next
put_next name.New v g = refl
put_next name.ReadOnly v g = refl
put_next name.Demo v g = refl
put_next name.Safe v g = refl
put_next name.Image v g = refl

-- a name that is given, in the grammar and in the walk; `k` is what the words from this one on make of the settings
pub given_name : (n : Name) (v : Bor Text) (g : Given) (s : Settings) (r : Option Given) (k : List Text → Option Settings) → Holds g s
    → MatchOption r (is_some (slot n g) ≡ true) (λ h. (slot n g ≡ None) × (h ≡ put n v g))
    → ((ws : List Text) → k ws ≡ option_and_then (rest_after g.next ws) (with_setting (spelled n) v.now s))
    → MatchOption r ((ws : List Text) → k ws ≡ None) (λ h. (t : Settings) × Holds h t × ((ws : List Text) → k ws ≡ rest_after h.next ws t))
given_name n v g s None k holds e is = λ ws. is ws ∙ ap (option_and_then (rest_after g.next ws)) (again n g v.now s holds e)
given_name n v g s (Some h) k holds e is =
    let none = unset n g s holds e.0 in (
      s ++ (spelled n, v.now) ∷ [],
      subst (λ x. Holds x (s ++ (spelled n, v.now) ∷ [])) (sym e.1) (put_holds n v g s holds none),
      λ ws. is ws ∙ ap (option_and_then (rest_after g.next ws)) (first_setting (spelled n) v.now s none)
          ∙ ap (λ x. rest_after x ws (s ++ (spelled n, v.now) ∷ [])) (sym (ap (λ x. x.next) e.1 ∙ put_next n v g)),
    )

-- ---- words

pub never_value : (x : CodeWord) (name w : Text) (next : Option Text → Settings → Option Settings) (s : Settings) → (x ≡ word.Plain → ⊥) → with_value (word_in x) name w next s ≡ None
never_value word.EndsOptions name w next s e = refl
never_value (word.Gives n) name w next s e = refl
never_value (word.Awaits n) name w next s e = refl
never_value (word.Sets n v) name w next s e = refl
never_value word.Plain name w next s e = absurd (e refl)
never_value word.Refused name w next s e = refl

-- the text has no `=`
lacks : (text : Text) → position_or_len is_equals text ≡ length text → Lacks 61 text
lacks text none i lt e =
    let fails : (get_or text i 0 == 61) ≡ false = fails_before_first is_equals text i 0 (omega (arith, none, lt)) in
    true≢false (rw e at fails)

has_equals : (text : Text) → position_or_len is_equals text < length text → list_any is_equals text ≡ true
has_equals [] lt = absurd (omega (arith, lt))
has_equals (b ∷ bs) lt = go (is_equals b) refl lt (has_equals bs)
  where
    go : (x : Bool) → is_equals b ≡ x → position_or_len is_equals (b ∷ bs) < length (b ∷ bs) → (position_or_len is_equals bs < length bs → list_any is_equals bs ≡ true) → list_any is_equals (b ∷ bs) ≡ true
    go true h lt more = rw h refl
    go false h lt more =
        let less : 1 + position_or_len is_equals bs < suc (length bs) = rw h at lt in
        rw h (more (omega (arith, less)))

pub dashed_alone : (text : Text) → 0 < length text → position_or_len is_equals text ≡ length text → dashed_word text ≡ option_alone (option_named text)
dashed_alone [] some none = absurd (omega (arith, some))
dashed_alone (b ∷ bs) some none =
    let l = lacks (b ∷ bs) none in
    rw (list_any-Lacks 61 (b ∷ bs) l, before_first-Lacks 61 (b ∷ bs) l) refl

pub dashed_with : (text name value : Text) → 0 < length text → (position_or_len is_equals text < length text) × (name ≡ before_first is_equals text) × (value ≡ after_first is_equals text) → dashed_word text ≡ option_with (option_named name) value
dashed_with [] name value some x = absurd (omega (arith, some))
dashed_with (b ∷ bs) name value some x = rw (x.1, x.2, has_equals (b ∷ bs) x.0) refl

-- `split_once` at `=`
pub dashed_cut : (text : Text) (r : Option (Bor Text × Bor Text)) → 0 < length text
    → MatchOption r (position_or_len is_equals text ≡ length text) (λ x. (position_or_len is_equals text < length text) × (x.0.now ≡ before_first is_equals text) × (x.1.now ≡ after_first is_equals text))
    → MatchOption r (dashed_word text ≡ option_alone (option_named text)) (λ x. dashed_word text ≡ option_with (option_named x.0.now) x.1.now)
dashed_cut text None some h = dashed_alone text some h
dashed_cut text (Some x) some h = dashed_with text x.0.now x.1.now some h

pub plain_word : (w : Text) → ((rest : Text) → w ≢ 45 ∷ rest) → word_of w ≡ plain
plain_word [] h = refl
plain_word (a ∷ []) h = refl
plain_word (a ∷ b ∷ rest) h =
    let ne : a ≢ 45 = λ e. h (b ∷ rest) (ap (λ x. x ∷ b ∷ rest) e) in
    let differs : (a == 45) ≡ false = grind (arith, nat_tests) in
    rw differs refl

pub short_option : (w after : Text) → w ≡ 45 ∷ after → 0 < length after → ((rest : Text) → after ≢ 45 ∷ rest) → word_of w ≡ refused
short_option w [] e some h = absurd (omega (arith, some))
short_option w (b ∷ bs) e some h =
    let ne : b ≢ 45 = λ e. h bs (ap (λ x. x ∷ bs) e) in
    let differs : (b == 45) ≡ false = grind (arith, nat_tests) in
    ap word_of e ∙ rw differs refl

pub some_bytes : (text : Text) → (length text == 0) ≡ false → 0 < length text
some_bytes [] e = absurd (true≢false e)
some_bytes (b ∷ bs) e = omega arith

-- ---- the next word

-- after `--`
pub image_next : (x : Next) (w : Text) (ws : List Text) (s : Settings) → x ≡ next.Image → rest_after x (w ∷ ws) s ≡ option_and_then (rest_after x ws) (with_setting (codes "image") w s)
unfolding images_after
image_next x w ws s e = subst (λ y. rest_after y (w ∷ ws) s ≡ option_and_then (rest_after y ws) (with_setting (codes "image") w s)) (sym e) refl

-- a value
pub value_next : (x : Next) (n : Name) (w : Text) (ws : List Text) (s : Settings) → x ≡ next.ValueOf n → word_of w ≡ plain → rest_after x (w ∷ ws) s ≡ option_and_then (rest_after next.Any ws) (with_setting (spelled n) w s)
unfolding settings_after
value_next x n w ws s e p = subst (λ y. rest_after y (w ∷ ws) s ≡ option_and_then (rest_after next.Any ws) (with_setting (spelled n) w s)) (sym e)
    (ap (λ k. with_value k (spelled n) w (settings_after ws) s) p)

-- no value
pub no_value : (x : Next) (n : Name) (r : CodeWord) (w : Text) (ws : List Text) (s : Settings) → x ≡ next.ValueOf n → word_in r ≡ word_of w → (r ≡ word.Plain → ⊥) → rest_after x (w ∷ ws) s ≡ None
unfolding settings_after
no_value x n r w ws s e f ne = subst (λ y. rest_after y (w ∷ ws) s ≡ None) (sym e)
    (ap (λ k. with_value k (spelled n) w (settings_after ws) s) (sym f) ∙ never_value r (spelled n) w (settings_after ws) s ne)

-- a word where none is awaited
pub any_next : (x : Next) (r : CodeWord) (w : Text) (ws : List Text) (s : Settings) → x ≡ next.Any → word_in r ≡ word_of w → rest_after x (w ∷ ws) s ≡ with_word (word_in r) w ws (settings_after ws) s
unfolding settings_after
any_next x r w ws s e f = subst (λ y. rest_after y (w ∷ ws) s ≡ with_word (word_in r) w ws (settings_after ws) s) (sym e)
    (ap (λ k. with_word k w ws (settings_after ws) s) (sym f))

-- no more words
pub value_end : (x : Next) (n : Name) (s : Settings) → x ≡ next.ValueOf n → rest_after x [] s ≡ None
unfolding settings_after
value_end x n s e = subst (λ y. rest_after y [] s ≡ None) (sym e) refl

pub any_end : (x : Next) (s : Settings) → x ≡ next.Any → rest_after x [] s ≡ complete s
unfolding settings_after
any_end x s e = subst (λ y. rest_after y [] s ≡ complete s) (sym e) refl

pub image_end : (x : Next) (s : Settings) → x ≡ next.Image → rest_after x [] s ≡ complete s
unfolding images_after
image_end x s e = subst (λ y. rest_after y [] s ≡ complete s) (sym e) refl

-- ---- values

-- all values fit
pub fits_all : (s : Settings) (n d i : Option Text) (f : Option Format) (m : Option ℕ) (r : Text)
    → value_of (codes "new") s ≡ n → value_of (codes "demo") s ≡ d → value_of (codes "image") s ≡ i
    → optional format_of n ≡ Some f → optional number_of d ≡ Some m → option_and_then image_of i ≡ Some r
    → true ≡ is_some (option_and_then request_from (complete s))
fits_all s n d None f m r en ed ei ef em er = absurd (true≢false (sym (ap is_some er)))
fits_all s n d (Some x) f m r en ed ei ef em er =
    let new : optional format_of (value_of (codes "new") s) ≡ Some f = ap (optional format_of) en ∙ ef in
    let demo : optional number_of (value_of (codes "demo") s) ≡ Some m = ap (optional number_of) ed ∙ em in
    let image : option_and_then image_of (value_of (codes "image") s) ≡ Some r = ap (option_and_then image_of) ei ∙ er in
    let given : is_set (codes "image") s ≡ true = is_set-value (codes "image") s ∙ ap is_some ei in
    rw (given, new, demo, image) refl
