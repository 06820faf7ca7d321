-- The directories after a command that writes one of them to its old place, and no path of which changes.
use Rattle.std.proofs.Common.{◌≡◌, ℕ, Bool, false, cond, List, map, refl, ap, ◌∙◌, None, Option}
use Rattle.fc_names.specs.Names.{Path}
use Rattle.fc_model.specs.Tree.{last_name}
use Rattle.fc_model.specs.Command.{Command}
use Rattle.fc_dirs.specs.declared.Entry.{Entry}
use Rattle.fc_dirs.specs.Big.{BigDir}
use Rattle.fc_dirs.specs.Directory.{entries_of}
use Rattle.fc_image.specs.Walk.{Object, Listing}
use Rattle.fc_image.specs.Opening.{Opened}
use Rattle.fc_image.specs.effects.Short.{growth_in, moved_growth}
use Rattle.fc_image.specs.effects.Steady.{BigNameAfter, edited, entries_after, grown_object, has_new_holder, holds_named, is_renamed_by, named_entry, path_after, regrown_entry, small_name_after, with_made, without_name}
use Rattle.fc_changes.proofs.BasicLemmas.{and_then_none, map_or_none, map_same}

-- ---- commands that change no path

-- no path changes, no directory gets another name or another holder, and only that of the named path gets other entries
pub record IsPlain (c : Command) : Type 0 where
  pub path : (p : Path) → path_after c p ≡ p
  pub renamed : (p : Path) → is_renamed_by c p ≡ false
  pub small : (p : Path) (name : List ℕ) → small_name_after c p name ≡ name
  pub big : (p : Path) (dir : BigDir) → BigNameAfter c p dir dir.name
  pub elsewhere : (p : Path) (made : Option Entry) (es : List Entry) → holds_named c p ≡ false → edited c p made es ≡ es

pub plain_set : (path : Path) (load exec access : ℕ) → IsPlain (Command.Set path load exec access)
plain_set path load exec access = record {
  path = λ p. refl;
  renamed = λ p. refl;
  small = λ p name. refl;
  big = λ p dir. refl;
  elsewhere = λ p made es h. ap (λ (b : Bool). cond b (with_made made es) es) h;
}

pub plain_mark : (path : Path) (attrs : ℕ) → IsPlain (Command.Mark path attrs)
plain_mark path attrs = record {
  path = λ p. refl;
  renamed = λ p. refl;
  small = λ p name. refl;
  big = λ p dir. refl;
  elsewhere = λ p made es h. ap (λ (b : Bool). cond b (with_made made es) es) h;
}

pub plain_delete : (path : Path) → IsPlain (Command.Delete path)
plain_delete path = record {
  path = λ p. refl;
  renamed = λ p. refl;
  small = λ p name. refl;
  big = λ p dir. refl;
  elsewhere = λ p made es h. ap (λ (b : Bool). cond b (without_name (last_name path) es) es) h;
}

pub plain_save : (path : Path) (load exec : ℕ) (bytes : List ℕ) → IsPlain (Command.Save path load exec bytes)
plain_save path load exec bytes = record {
  path = λ p. refl;
  renamed = λ p. refl;
  small = λ p name. refl;
  big = λ p dir. refl;
  elsewhere = λ p made es h. ap (λ (b : Bool). cond b (with_made made es) es) h;
}

pub plain_create : (path : Path) (load exec len : ℕ) → IsPlain (Command.Create path load exec len)
plain_create path load exec len = record {
  path = λ p. refl;
  renamed = λ p. refl;
  small = λ p name. refl;
  big = λ p dir. refl;
  elsewhere = λ p made es h. ap (λ (b : Bool). cond b (with_made made es) es) h;
}

pub plain_cdir : (path : Path) → IsPlain (Command.Cdir path)
plain_cdir path = record {
  path = λ p. refl;
  renamed = λ p. refl;
  small = λ p name. refl;
  big = λ p dir. refl;
  elsewhere = λ p made es h. ap (λ (b : Bool). cond b (with_made made es) es) h;
}

-- ---- if nothing grows

module _ (v w : Opened) (c : Command) (none : growth_in v c ≡ None) where
  pub moved_none : moved_growth v c ≡ None
  moved_none = and_then_none _ (growth_in v c) none

  pub no_new_holder : (p : Path) → has_new_holder v c p ≡ false
  no_new_holder p = map_or_none _ (moved_growth v c) false moved_none

  pub grown_none : grown_object v w c ≡ None
  grown_none = and_then_none _ (growth_in v c) none

  pub entries_now : (l : Listing) → entries_after v w c l ≡ edited c l.object.path (named_entry w c) (entries_of l.content)
  entries_now l =
      ap (λ (o : Option Object). edited c l.object.path (named_entry w c) (map (regrown_entry l.object.path o) (entries_of l.content))) grown_none
      ∙ ap (edited c l.object.path (named_entry w c)) (map_same (regrown_entry l.object.path None) (λ e. refl) (entries_of l.content))
