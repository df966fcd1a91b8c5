mod OutlineLaws
