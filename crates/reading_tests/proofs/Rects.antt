-- A rectangle in a dataset is a window of each of its bands.
use Rattle.std.proofs.Common.{◌≡◌, subst, sym, ◌+◌, ◌<◌, ◌≤◌, List, length, Some}
use Rattle.std.specs.Prelude.{slice_get, option_map}
use Rattle.catalog.specs.Dataset.{DatasetHead}
use Rattle.catalog.specs.Drivers.{Dataset}
use Rattle.catalog.proofs.Pixels.{at_number}
use Rattle.nearest_window.specs.declared.window.Window.{Window}
use Rattle.nearest_window.specs.Windows.{IsWindow}
use Rattle.nearest_window.proofs.Blocks.{head_of}

pub window_in : (cat : List Dataset) (window : Window) (h : DatasetHead) → window.dataset < length cat → option_map (λ (d : Dataset). d.head) (slice_get cat window.dataset) ≡ Some h → window.band < length h.bands → window.rect.x + window.rect.w ≤ h.size.w → window.rect.y + window.rect.h ≤ h.size.h → IsWindow cat window
window_in cat window h known shown band across down =
    let d = at_number cat window.dataset known in
    let head = head_of (slice_get cat window.dataset) d.0 h d.1 shown in
    record {
      dataset = d.0;
      at = d.1;
      has_band = subst (λ (h : DatasetHead). window.band < length h.bands) (sym head) band;
      across = subst (λ (h : DatasetHead). window.rect.x + window.rect.w ≤ h.size.w) (sym head) across;
      down = subst (λ (h : DatasetHead). window.rect.y + window.rect.h ≤ h.size.h) (sym head) down;
    }
