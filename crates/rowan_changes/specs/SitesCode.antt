-- Edited places are stored as their root, and each site as its parts.
use Rattle.std.specs.Prelude.{ℕ, List, refl}
use Rattle.std.specs.Coded.{Coded, code_by, coded×, coded_ℕ, coded_list}
use Rattle.rowan_green.specs.Coding.{coded_node}
use Rattle.rowan_green.specs.Term.{NodeTerm}
use Rattle.rowan_changes.specs.Sites.{Site, EditedPlaces}

abbrev pub coded_site : Coded Site
coded_site =
    code_by (List ℕ × (ℕ × (ℕ × ℕ)))
    (coded× (coded_list coded_ℕ) (coded× coded_ℕ (coded× coded_ℕ coded_ℕ)))
    (λ s. (s.parent, (s.start, (s.end, s.count))))
    (λ p. record { parent = p.0; start = p.1.0; end = p.1.1.0; count = p.1.1.1 }) (λ _. refl)

abbrev pub coded_places : Coded EditedPlaces
coded_places =
    code_by (NodeTerm × List Site) (coded× coded_node (coded_list coded_site))
    (λ p. (p.root, p.sites)) (λ p. record { root = p.0; sites = p.1 }) (λ _. refl)
