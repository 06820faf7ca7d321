-- The commands that make one object are accepted where its directories are there and itself isn't.
use Rattle.std.proofs.Common.{◌≡◌, ◌<◌, ℕ, zero, suc, ◌+◌, ◌-◌, ◌*◌, ◌/◌, ◌%◌, Bool, true, false, cond, List, [], ◌∷◌, ◌++◌, length, take, refl, sym, ap, subst, ◌∙◌, Option, Some, None, arith, append_assoc}
use Rattle.std.specs.Prelude.{Ok, Err, is_some, not, ◌||◌, ◌==◌, if◌then◌else◌}
use Rattle.std.specs.Option.{option_map_or}
use Rattle.std.specs.declared.cmp.Ordering.{Ordering}
use Rattle.std.specs.declared.cmp.Ordering.TheVariants.{Less, Equal, Greater}
use Rattle.std.specs.Ordering.{eq_by_cmp, is_eq}
use Rattle.std.specs.Cmp.{tied_itself}
use Rattle.std.specs.FinMap.{get, get-insert, insert, same_map}
use Rattle.std.proofs.lemmas.Bool.{ne_eqb}
use Rattle.std.proofs.lemmas.List.{append-nil, length-map, length-take, take-take}
use Rattle.fc_names.specs.declared.name.NameForm.{NameForm}
use Rattle.fc_names.specs.declared.refusal.Refusal.TheVariants as refusals
use Rattle.fc_names.specs.Names.{Path, folded_path, folded, is_directory, is_locked, is_writable, key_cmp}
use Rattle.fc_model.specs.Answer.{answer, answer_or, changed, first_of, found, found_below, holder_refusal, is_name_bad, node_or_absent, path_refusal, reasons, refusal_of, refusal_of_holder, when, with_attrs, with_words}
use Rattle.fc_model.specs.Command.{Command}
use Rattle.fc_model.specs.Tree.{Body, Node, Tree, holder, is_directory_body, last_name, node_at}
use Rattle.fc_image.proofs.TreeLemmas.{key_exact, key_total}
use Rattle.fc_tree.proofs.FindLemmas.{below_some}
use Rattle.fc_fit.specs.Commands.{making_command, object_commands}
use Rattle.fc_fit.specs.Makes.{Accepts}

-- A directory is at the path.
abbrev pub IsDirectoryAt : Tree → Path → Type 0
IsDirectoryAt t path = (node : Node) × (node_at t path ≡ Some node) × (is_directory_body node.body ≡ true)

-- Directories are above the path.
abbrev pub AreAbove : Tree → Path → Type 0
AreAbove t path = (i : ℕ) → i < length path → IsDirectoryAt t (take i path)

-- ---- keys

other_key : (q key : Path) → length q < length key → eq_by_cmp key_cmp q key ≡ false
other_key q key shorter = by (eq_by_cmp key_cmp q key) refl
  where
    by : (b : Bool) → eq_by_cmp key_cmp q key ≡ b → b ≡ false
    by false e = refl
    by true e = let same : length q ≡ length key = ap length (key_exact q key (equal (key_cmp q key) e)) in absurd (omega (arith, same, shorter))
      where
        equal : (o : Ordering) → is_eq o ≡ true → o ≡ Equal
        equal Equal e = refl
        equal Less e = absurd (cc)
        equal Greater e = absurd (cc)

own_key : (key : Path) → eq_by_cmp key_cmp key key ≡ true
own_key key = ap is_eq (tied_itself key_total key)

get_own : (t : Tree) (key : Path) (node : Node) → get (insert t key node) key ≡ Some node
get_own t key node = get-insert key_total t key node key ∙ ap (λ (b : Bool). cond b (Some node) (get t key)) (own_key key)

get_other : (t : Tree) (key q : Path) (node : Node) → length q < length key → get (insert t key node) q ≡ get t q
get_other t key q node shorter = get-insert key_total t key node q ∙ ap (λ (b : Bool). cond b (Some node) (get t q)) (other_key q key shorter)

insert_twice : (t : Tree) (key : Path) (a b : Node) → insert (insert t key a) key b ≡ insert t key b
insert_twice t key a b =
    same_map key_total key_exact (insert (insert t key a) key b) (insert t key b) (λ q.
    get-insert key_total (insert t key a) key b q
    ∙ ap (λ (o : Option Node). cond (eq_by_cmp key_cmp q key) (Some b) o) (get-insert key_total t key a q)
    ∙ twice (eq_by_cmp key_cmp q key) (Some b) (Some a) (get t q)
    ∙ sym (get-insert key_total t key b q))
  where
    twice : (c : Bool) (x y z : Option Node) → cond c x (cond c y z) ≡ cond c x z
    twice true x y z = refl
    twice false x y z = refl

-- ---- where a path leads

found_on : (t : Tree) (seen names : Path) → ((i : ℕ) → i < length names → IsDirectoryAt t (seen ++ take i names)) → found_below t seen names ≡ node_or_absent (node_at t (seen ++ names))
found_on t seen [] above = ap (λ (p : Path). node_or_absent (node_at t p)) (sym (append-nil seen))
found_on t seen (name ∷ names) above =
    let first = above 0 (omega arith) in
    let here : node_at t seen ≡ Some first.0 = ap (node_at t) (sym (append-nil seen)) ∙ first.1 in
    below_some t seen name names first.0 here
    ∙ ap (λ (b : Bool). if b then found_below t (seen ++ name ∷ []) names else Err refusals.NotDirectory) first.2
    ∙ found_on t (seen ++ name ∷ []) names (λ i below. subst (IsDirectoryAt t) (sym (append_assoc seen (name ∷ []) (take i names))) (above (suc i) (omega (arith, below))))
    ∙ ap (λ (p : Path). node_or_absent (node_at t p)) (append_assoc seen (name ∷ []) names)

found_at : (t : Tree) (path : Path) → AreAbove t path → found t path ≡ node_or_absent (node_at t path)
found_at t path above = found_on t [] path above

no_refusal : (t : Tree) (path : Path) (node : Node) → AreAbove t path → node_at t path ≡ Some node → path_refusal t path ≡ None
no_refusal t path node above there = ap refusal_of (found_at t path above ∙ ap node_or_absent there)

holder_there : (t : Tree) (path : Path) → 0 < length path → AreAbove t path → holder_refusal t path ≡ None
holder_there t [] some above = refl
holder_there t (name ∷ names) some above =
    let path = name ∷ names in
    let short : length path - 1 < length path = omega (arith, some) in
    let dir = above (length path - 1) short in
    let upper : AreAbove t (holder path) = λ i below.
    (let low : i < length path - 1 = omega (arith, below, length-take (length path - 1) path) in
    subst (IsDirectoryAt t) (sym (take-take i (length path - 1) path (omega (arith, low)))) (above i (omega (arith, low)))) in
    ap refusal_of_holder (found_at t (holder path) upper ∙ ap node_or_absent dir.1)
    ∙ ap (λ (b : Bool). if b then None else Some refusals.NotDirectory) dir.2

-- ---- commands

pub accepted : (t : Tree) (form : NameForm) (c : Command) → first_of (reasons t form false c) ≡ None → answer t form false c ≡ Ok (changed t c)
unfolding answer
accepted t form c none = ap (answer_or (changed t c)) none

-- the directories above stay
above_stay : (t : Tree) (path : Path) (node : Node) → AreAbove t path → AreAbove (insert t (folded_path path) node) path
above_stay t path node above i below =
    let d = above i below in
    let long : length (folded_path (take i path)) < length (folded_path path) =
    omega (arith, below, length-map (take i path) folded, length-map path folded, length-take i path) in
    (d.0, get_other t (folded_path path) (folded_path (take i path)) node long ∙ d.1, d.2)

or_true : (b : Bool) → (b || true) ≡ true
or_true true = refl
or_true false = refl

not_root : (path : Path) → 0 < length path → (length path == 0) ≡ false
not_root path some = ne_eqb (length path) 0 (λ e. absurd (omega (arith, e, some)))

-- bit 3 of a number, and how marking puts it back
clear_bit : (r : ℕ) → r < 2 → (r == 1) ≡ false → r ≡ 0
clear_bit zero small is = refl
clear_bit (suc zero) small is = absurd (cc)
clear_bit (suc (suc r)) small is = absurd (omega (arith, small))

set_bit : (r : ℕ) → r < 2 → (r == 1) ≡ true → r ≡ 1
set_bit zero small is = absurd (cc)
set_bit (suc zero) small is = refl
set_bit (suc (suc r)) small is = absurd (omega (arith, small))

put_back : (a m b : ℕ) → m / 8 ≡ b → b < 2 → a / 8 % 2 ≡ b → a / 16 * 16 + 8 * ((m / 8 * 8 + a % 8) / 8 % 2) + a % 8 ≡ a
put_back a m b of small same = omega (arith, of, small, same)

module _ (form : NameForm) (t : Tree) (path : Path) (some : 0 < length path) (writable : is_writable form (last_name path) ≡ true) (above : AreAbove t path)
    (absent : node_at t path ≡ None) where
  name_right : is_name_bad form path ≡ false
  name_right = ap (λ (b : Bool). not ((length path == 0) || b)) writable ∙ ap not (or_true (length path == 0))

  -- a new file
  made_file : (load exec : ℕ) (bytes : List ℕ) → answer t form false (Command.Save path load exec bytes)
      ≡ Ok (insert t (folded_path path) (record { name = last_name path; attrs = 3; load = load; exec = exec; body = Body.File bytes }))
  made_file load exec bytes =
      accepted t form (Command.Save path load exec bytes) (λ i.
      first_of (when (name_right i) refusals.BadName ∷ holder_there t path some above i
      ∷ when (option_map_or (λ (n : Node). is_directory_body n.body) (absent i) false) refusals.IsDirectory
      ∷ when (option_map_or (λ (n : Node). is_locked n.attrs) (absent i) false) refusals.Locked ∷ None ∷ []))
      ∙ (λ i. Ok (insert t (folded_path path) (record {
        name = option_map_or (λ (n : Node). n.name) (absent i) (last_name path);
        attrs = option_map_or (λ (n : Node). n.attrs) (absent i) 3;
        load = load;
        exec = exec;
        body = Body.File bytes;
      })))

  -- a new directory
  made_directory : answer t form false (Command.Cdir path) ≡ Ok (insert t (folded_path path) (record { name = last_name path; attrs = 8; load = 0; exec = 0; body = Body.Directory }))
  made_directory =
      accepted t form (Command.Cdir path) (λ i.
      first_of (when (name_right i) refusals.BadName ∷ holder_there t path some above i ∷ when (is_some (absent i)) refusals.Exists ∷ None ∷ []))

  module _ (was : Node) where
    there : node_at (insert t (folded_path path) was) path ≡ Some was
    there = get_own t (folded_path path) was

    free : first_of (path_refusal (insert t (folded_path path) was) path ∷ when (length path == 0) refusals.RootRefused ∷ None ∷ []) ≡ None
    free = λ i. first_of (no_refusal (insert t (folded_path path) was) path was (above_stay t path was above) there i ∷ when (not_root path some i) refusals.RootRefused ∷ None ∷ [])

    -- other words
    set_words : (load exec access : ℕ) → answer (insert t (folded_path path) was) form false (Command.Set path load exec access)
        ≡ Ok (insert t (folded_path path) (with_words load exec access was))
    set_words load exec access =
        accepted (insert t (folded_path path) was) form (Command.Set path load exec access) free
        ∙ ap (λ (o : Option Node). Ok (option_map_or (λ (n : Node). insert (insert t (folded_path path) was) (folded_path path) (with_words load exec access n)) o (insert t (folded_path path) was))) there
        ∙ ap Ok (insert_twice t (folded_path path) was (with_words load exec access was))

    -- other attributes
    set_attrs : (attrs : ℕ) → answer (insert t (folded_path path) was) form false (Command.Mark path attrs) ≡ Ok (insert t (folded_path path) (with_attrs attrs was))
    set_attrs attrs =
        accepted (insert t (folded_path path) was) form (Command.Mark path attrs) free
        ∙ ap (λ (o : Option Node). Ok (option_map_or (λ (n : Node). insert (insert t (folded_path path) was) (folded_path path) (with_attrs attrs n)) o (insert t (folded_path path) was))) there
        ∙ ap Ok (insert_twice t (folded_path path) was (with_attrs attrs was))

  -- The object's three commands are accepted, and leave its node under its path.
  pub object_accepted : (n : Node) → last_name path ≡ n.name → is_directory n.attrs ≡ is_directory_body n.body
      → Accepts form t (object_commands path n) (insert t (folded_path path) n) × ((mid : Tree) × (answer t form false (making_command path n) ≡ Ok mid))
  object_accepted n named marked = by n.body marked
    where
      small : n.attrs / 8 % 2 < 2
      small = omega arith

      by : (body : Body) → is_directory n.attrs ≡ is_directory_body body
          → (let o : Node = record { name = n.name; attrs = n.attrs; load = n.load; exec = n.exec; body = body } in
          Accepts form t (object_commands path o) (insert t (folded_path path) o) × ((mid : Tree) × (answer t form false (making_command path o) ≡ Ok mid)))
      by (Body.File bytes) bit =
          let made : Node = record { name = last_name path; attrs = 3; load = n.load; exec = n.exec; body = Body.File bytes } in
          let worded = with_words n.load n.exec (n.attrs % 8) made in
          let right : n.attrs / 16 * 16 + 8 * ((3 / 8 * 8 + n.attrs % 8) / 8 % 2) + n.attrs % 8 ≡ n.attrs = put_back n.attrs 3 0 refl (omega arith) (clear_bit (n.attrs / 8 % 2) small bit) in
          let whole : with_attrs n.attrs worded ≡ record { name = n.name; attrs = n.attrs; load = n.load; exec = n.exec; body = Body.File bytes } =
          λ i. record { name = named i; attrs = right i; load = n.load; exec = n.exec; body = Body.File bytes } in (
            (
              insert t (folded_path path) made,
              made_file n.load n.exec bytes,
              (
                insert t (folded_path path) worded,
                set_words made n.load n.exec (n.attrs % 8),
                (insert t (folded_path path) (with_attrs n.attrs worded), set_attrs worded n.attrs, ap (insert t (folded_path path)) (sym whole)),
              ),
            ),
            (insert t (folded_path path) made, made_file n.load n.exec bytes),
          )
      by Body.Directory bit =
          let made : Node = record { name = last_name path; attrs = 8; load = 0; exec = 0; body = Body.Directory } in
          let worded = with_words n.load n.exec (n.attrs % 8) made in
          let right : n.attrs / 16 * 16 + 8 * ((8 / 8 * 8 + n.attrs % 8) / 8 % 2) + n.attrs % 8 ≡ n.attrs = put_back n.attrs 8 1 refl (omega arith) (set_bit (n.attrs / 8 % 2) small bit) in
          let whole : with_attrs n.attrs worded ≡ record { name = n.name; attrs = n.attrs; load = n.load; exec = n.exec; body = Body.Directory } =
          λ i. record { name = named i; attrs = right i; load = n.load; exec = n.exec; body = Body.Directory } in (
            (
              insert t (folded_path path) made,
              made_directory,
              (
                insert t (folded_path path) worded,
                set_words made n.load n.exec (n.attrs % 8),
                (insert t (folded_path path) (with_attrs n.attrs worded), set_attrs worded n.attrs, ap (insert t (folded_path path)) (sym whole)),
              ),
            ),
            (insert t (folded_path path) made, made_directory),
          )
