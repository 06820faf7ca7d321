-- The theorem, from how a conversion ended.
use Rattle.std.proofs.Common.{◌≡◌, Bool, true, false, List, ℕ, refl, sym, ap, subst, ◌∙◌, Option, Some, None, Ok, Err, Result}
use Rattle.std.specs.Option.{ForSome}
use Rattle.fc_device.specs.declared.disk.Disk.{Ghosts}
use Rattle.fc_device.specs.declared.streams.Sink.{Ghosts as Sinks}
use Rattle.fc_device.specs.Faults.{Rose}
use Rattle.fc_record.specs.declared.Kind.{Kind}
use Rattle.fc_names.specs.Names.{Path}
use Rattle.fc_model.specs.Tree.{Tree}
use Rattle.fc_image.specs.declared.ImageFault.{ImageFault}
use Rattle.fc_image.specs.Objects.{tree_of}
use Rattle.fc_image.specs.Opening.{Opened, open_image}
use Rattle.fc_image.specs.Stays.{OpensAs}
use Rattle.fc_image.specs.effects.Effect.{State}
use Rattle.fc_format.specs.Fresh.{format_size}
use Rattle.fc_fit.specs.declared.fit.What.{What}
use Rattle.fc_fit.specs.Doing.{IsConverted}
use Rattle.fc_fit.specs.Fit.{unfit}
use Rattle.fc_convert.specs.declared.ending.ConvertEnd.{ConvertEnd}
use Rattle.fc_convert.specs.declared.ending.ConvertEnd.TheVariants as ends
use Rattle.fc_convert.specs.Convert.{ConvertWords}
use Rattle.fc_convert.specs.Promise.{EndsByFit, EndsByOpening, HasConverted, HasTreeOf, IsAnswer, Outside}

module _ {D E K : Type 0} (d : Ghosts D) (e : Ghosts E) (k : Sinks K) (w : ConvertWords) (old new : Outside D E K) where
  abbrev HasTarget : List ℕ → Type 0
  HasTarget source = (target : List ℕ) × (e.bytes new.to ≡ Some target) × HasTreeOf w.format source target

  converted_tree : (source : List ℕ) (view : Opened) (kind : Kind) (s : State) → open_image source ≡ Ok view → IsConverted w.format kind (tree_of source view.layout view.listings) s → e.bytes new.to ≡ Some s.image
      → HasTarget source
  converted_tree source view kind s opened done bytes = (
    s.image,
    bytes,
    record {
      view = view;
      opened = opened;
      fresh = done.fresh.view;
      accepted = ap open_image (sym done.starts.image) ∙ done.starts.accepted;
      now = s.view;
      opens = subst (λ (x : Kind). OpensAs s.image x s.view) (sym done.starts.is_kind) done.opens;
      same = done.tree;
    },
  )

  fitting_tree : (source was : List ℕ) (view : Opened) → e.bytes old.to ≡ Some was → open_image source ≡ Ok view → (o : Option (Path × What))
      → EndsByFit e old.to new.to w.format (tree_of source view.layout view.listings) (k.taken old.out) (k.taken new.out) o ends.Done → HasTarget source
  fitting_tree source was view here opened None told = let t = told.1 was here in converted_tree source view t.0 t.1 opened t.2 t.3
  fitting_tree source was view here opened (Some fault) told = absurd told

  opened_tree : (source was : List ℕ) → e.bytes old.to ≡ Some was → (opened : Result Opened ImageFault) → open_image source ≡ opened
      → EndsByOpening e old.to new.to w.format source (k.taken old.out) (k.taken new.out) opened ends.Done → HasTarget source
  opened_tree source was here (Ok view) is told = fitting_tree source was view here is (unfit w.format (tree_of source view.layout view.listings)) told
  opened_tree source was here (Err fault) is told = absurd told

  pub same_tree : (end : ConvertEnd) → HasConverted d e k w old new end → end ≡ ends.Done → ForSome (d.bytes old.from) (λ source. ForSome (e.bytes old.to) (λ was. HasTarget source))
  same_tree end done is source told was here =
      opened_tree source was here (open_image source) refl
      (subst (λ (x : ConvertEnd). EndsByOpening e old.to new.to w.format source (k.taken old.out) (k.taken new.out) (open_image source) x) is (done.told source told))
