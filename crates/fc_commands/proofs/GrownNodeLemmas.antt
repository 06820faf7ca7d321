-- The nodes after a directory has grown by an object that comes to it, by whichever way they are written down.
use Rattle.std.proofs.Common.{◌≡◌, inl, inr, ℕ, List, [], ◌∷◌, refl, sym, ap, subst, ◌∙◌, Option, Some}
use Rattle.std.specs.Prelude.{Contains}
use Rattle.std.specs.Option.{option_map, option_map_or}
use Rattle.std.specs.Cmp.{nat_cmp_total}
use Rattle.std.specs.FinMap.{get, insert as put, same_map, nat_cmp-IsAntisymmetric}
use Rattle.std.proofs.lemmas.Bool.{cases_eq}
use Rattle.fc_drafts.specs.Draft.{directory_in}
use Rattle.fc_drafts.specs.Entries.{regrown}
use Rattle.fc_laws.specs.nodes.Edits.{Nodes, with_body}
use Rattle.fc_laws.proofs.lemmas.nodes.ShapeLemmas.{edited_here, edited_other, put_here, put_other}
use Rattle.fc_tree.specs.declared.node.Body.{Body}
use Rattle.fc_tree.specs.declared.node.Node.{Node}
use Rattle.fc_tree.specs.Nodes.{body_in}
use Rattle.fc_change.specs.declared.change.Regrowth.{Regrowth}
use Rattle.fc_change.specs.declared.change.Says.{Says}
use Rattle.fc_change.specs.After.{with_regrown, with_said}
use Rattle.fc_tree.proofs.MemberLemmas.{contains_here}
use Rattle.fc_image.proofs.EntriesLemmas.{later as contains_later}

same_nodes : (a b : Nodes) → ((q : ℕ) → get a q ≡ get b q) → a ≡ b
same_nodes a b each = same_map nat_cmp_total nat_cmp-IsAntisymmetric a b each

abbrev saying : Body → Node → Node
saying b node = record node { body = b }

-- Two directories are told in either order.
pub body_commute : (n k : ℕ) (b c : Body) (ns : Nodes) → (n ≡ k → ⊥) → with_body n b (with_body k c ns) ≡ with_body k c (with_body n b ns)
body_commute n k b c ns apart = same_nodes (with_body n b (with_body k c ns)) (with_body k c (with_body n b ns)) each
  where
    each : (q : ℕ) → get (with_body n b (with_body k c ns)) q ≡ get (with_body k c (with_body n b ns)) q
    each q = elim (cases_eq q n) [
      | inl here ↦
          subst (λ (x : ℕ). get (with_body n b (with_body k c ns)) x ≡ get (with_body k c (with_body n b ns)) x) (sym here)
          (edited_here (with_body k c ns) n (saying b) ∙ ap (option_map (saying b)) (edited_other ns k (saying c) n apart)
          ∙ sym (edited_other (with_body n b ns) k (saying c) n apart ∙ edited_here ns n (saying b)))
      | inr off ↦ elim (cases_eq q k) [
        | inl there ↦
            subst (λ (x : ℕ). get (with_body n b (with_body k c ns)) x ≡ get (with_body k c (with_body n b ns)) x) (sym there)
            (edited_other (with_body k c ns) n (saying b) k (λ e. apart (sym e)) ∙ edited_here ns k (saying c)
            ∙ sym (edited_here (with_body n b ns) k (saying c) ∙ ap (option_map (saying c)) (edited_other ns n (saying b) k (λ e. apart (sym e)))))
        | inr none ↦
            edited_other (with_body k c ns) n (saying b) q off ∙ edited_other ns k (saying c) q none
            ∙ sym (edited_other (with_body n b ns) k (saying c) q none ∙ edited_other ns n (saying b) q off)
      ]
    ]

-- What is told of others doesn't hang on a node that is told.
pub said_commute : (ss : List Says) (n : ℕ) (b : Body) (ns : Nodes) → ((s : Says) → Contains ss s → s.node ≡ n → ⊥) → with_body n b (with_said ss ns) ≡ with_said ss (with_body n b ns)
said_commute [] n b ns apart = refl
said_commute (s ∷ ss) n b ns apart =
    said_commute ss n b (with_body s.node (body_in (directory_in s.draft)) ns) (λ t at. apart t (contains_later s t ss at))
    ∙ ap (with_said ss) (body_commute n s.node b (body_in (directory_in s.draft)) ns (λ e. apart s (contains_here s ss) (sym e)))

-- a node that is put says this
pub body_put : (n : ℕ) (b : Body) (x : Node) (ns : Nodes) → with_body n b (put ns n x) ≡ put ns n (record x { body = b })
body_put n b x ns = same_nodes (with_body n b (put ns n x)) (put ns n (record x { body = b })) each
  where
    each : (q : ℕ) → get (with_body n b (put ns n x)) q ≡ get (put ns n (record x { body = b })) q
    each q = elim (cases_eq q n) [
      | inl here ↦
          subst (λ (y : ℕ). get (with_body n b (put ns n x)) y ≡ get (put ns n (record x { body = b })) y) (sym here)
          (edited_here (put ns n x) n (saying b) ∙ ap (option_map (saying b)) (put_here ns n x) ∙ sym (put_here ns n (record x { body = b })))
      | inr off ↦ edited_other (put ns n x) n (saying b) q off ∙ put_other ns n q x off ∙ sym (put_other ns n q (record x { body = b }) off)
    ]

-- the grown directory's node
pub regrown_put : (g : Regrowth) (node : Node) (ns : Nodes) → get ns g.node ≡ Some node → with_regrown (Some g) ns ≡ put ns g.node (record node { entry = regrown node.entry g.address g.len })
regrown_put g node ns there = ap (λ (o : Option Node). option_map_or (λ (x : Node). put ns g.node (record x { entry = regrown x.entry g.address g.len })) o ns) there
